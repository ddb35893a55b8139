-- The laws of gathering: a step passes an entry, and a program's goes to the end of the arrays.
use Prim.Native.Nat.{ℕ, suc, ◌+◌, ◌≤◌, ◌<◌}
use mathlib.Core.Path.{◌≡◌, refl, sym, ap, ◌∙◌}
use mathlib.Core.List.{List, [], ◌∷◌, ◌++◌, map, append-nil}
use native.Mathlib.Omega.{arith}
use lib.ListN.{length, drop, set, replicate, length-append, length-map}
use lib.Seq.{append_snoc}
use Rattle.program_chains.specs.Parents.{in_array}
use Rattle.program_chains.proofs.Arrays.{array-push}
use Rattle.catalogue_entries.proofs.Walk.{turn_end, turn_on}
use Rattle.catalogue_entries.specs.declared.Place.{Place}
use Rattle.catalogue_entries.specs.declared.Entry.{Entry}
use Rattle.catalogue_entries.specs.declared.Entry.TheVariants.{End, Header, ReferenceSequence, ReadGroup, Program, Comment, Field}
use Rattle.catalogue_entries.specs.Entries.{kind_byte, entry_size, entry_of, entries_in, counted}
use Rattle.catalogue_lookup.specs.Lookup.{value_in}
use Rattle.program_places.specs.declared.Programs.{Programs}
use Rattle.program_places.specs.Gathered.{ProgramPlaces, or_nowhere, noted_in, arrays_of, gathered_of}

-- ---- the first of some entries

-- it is no program
other-first : (e : Entry) (es : List Entry) → ((id : Place) (line : ℕ) → e ≡ Program id line → ⊥) → (noted_in (e ∷ es) ≡ noted_in es) × (counted 4 (e ∷ es) ≡ counted 4 es)
unfolding noted_in counted kind_byte
other-first End es h = (refl, refl)
other-first (Header v l) es h = (refl, refl)
other-first (ReferenceSequence p n l) es h = (refl, refl)
other-first (ReadGroup p l) es h = (refl, refl)
other-first (Program p l) es h = absurd (h p l refl)
other-first (Comment p l) es h = (refl, refl)
other-first (Field a b p) es h = (refl, refl)

program-first : (p : Place) (l : ℕ) (es : List Entry)
    → (noted_in (Program p l ∷ es) ≡ record { id = p; previous = or_nowhere (value_in 80 80 es) } ∷ noted_in es) × (counted 4 (Program p l ∷ es) ≡ suc (counted 4 es))
unfolding noted_in counted kind_byte
program-first p l es = (refl, refl)

-- ---- arrays

-- one number of each program is in an array
abbrev pub Kept : (ProgramPlaces → ℕ) → List ProgramPlaces → List ℕ → Type 0
Kept f ns xs = xs ≡ in_array (map f ns)

pub map_snoc : {A B : Type 0} (f : A → B) (xs : List A) (x : A) → map f xs ++ (f x ∷ []) ≡ map f (xs ++ (x ∷ []))
map_snoc f [] x = refl
map_snoc f (y ∷ xs) x = ap (λ zs. f y ∷ zs) (map_snoc f xs x)

-- and that of one more program
kept_more : (f : ProgramPlaces → ℕ) (ns : List ProgramPlaces) (n : ProgramPlaces) (xs : List ℕ) (count v : ℕ) → Kept f ns xs → length ns ≡ count → count < 1024 → v ≡ f n → Kept f (ns ++ (n ∷ [])) (set xs count v)
kept_more f ns n xs count v k l h e =
    let m : length (map f ns) ≡ count = length-map ns f ∙ l in
    rw (k, ← m, e) (array-push (map f ns) (f n) (omega arith) ∙ ap in_array (map_snoc f ns n))

-- ---- one after another

-- the programs before `at` are in the arrays, and those from there on are all the others
pub record Listed (c ats lens from widths : List ℕ) (count at : ℕ) : Type 0 where
  pub ns : List ProgramPlaces
  pub id-at : Kept (λ n. n.id.at) ns ats
  pub id-len : Kept (λ n. n.id.len) ns lens
  pub previous-at : Kept (λ n. n.previous.at) ns from
  pub previous-len : Kept (λ n. n.previous.len) ns widths
  pub counts : length ns ≡ count
  pub joined : noted_in (entries_in c) ≡ ns ++ noted_in (entries_in (drop at c))
  pub room : count + counted 4 (entries_in (drop at c)) ≤ 1024

listed-none : (c : List ℕ) → counted 4 (entries_in c) ≤ 1024 → Listed c (replicate 1024 0) (replicate 1024 0) (replicate 1024 0) (replicate 1024 0) 0 0
unfolding in_array
listed-none c h = record { ns = []; id-at = refl; id-len = refl; previous-at = refl; previous-len = refl; counts = refl; joined = refl; room = omega arith }

pub listed_start : (c ats lens from widths : List ℕ) → counted 4 (entries_in c) ≤ 1024 → ats ≡ replicate 1024 0 → lens ≡ replicate 1024 0 → from ≡ replicate 1024 0 → widths ≡ replicate 1024 0
    → Listed c ats lens from widths 0 0
listed_start c ats lens from widths h a l f w = rw (a, l, f, w) (listed-none c h)

-- the whole
whole : (ns : List ProgramPlaces) (ats lens from widths : List ℕ) (count : ℕ)
    → Kept (λ n. n.id.at) ns ats → Kept (λ n. n.id.len) ns lens → Kept (λ n. n.previous.at) ns from → Kept (λ n. n.previous.len) ns widths → count ≡ length ns
    → ◌≡◌ {A = Programs} (record { id = record { at = ats; len = lens }; previous = record { at = from; len = widths }; count = count }) (gathered_of ns)
unfolding gathered_of arrays_of
whole ns ats lens from widths count a b d e m = rw (a, b, d, e, m) refl

module _ (c ats lens from widths : List ℕ) (count at len : ℕ) (e : Entry) (found : e ≡ entry_of (drop at c)) (long : len ≡ entry_size e) (x : Listed c ats lens from widths count at) where
  pub listed-all : len ≡ 0
      → ◌≡◌ {A = Programs} (record { id = record { at = ats; len = lens }; previous = record { at = from; len = widths }; count = count }) (gathered_of (noted_in (entries_in c)))
  unfolding noted_in
  listed-all z =
      let o : noted_in (entries_in c) ≡ x.ns = x.joined ∙ ap (λ es. x.ns ++ noted_in es) (turn_end c at len e found long z) ∙ append-nil x.ns in
      whole x.ns ats lens from widths count x.id-at x.id-len x.previous-at x.previous-len (sym x.counts) ∙ ap gathered_of (sym o)

  module _ (n : len ≡ 0 → ⊥) where
    abbrev rest : List Entry
    rest = entries_in (drop (at + len) c)

    opened : (f : Entry) → e ≡ f → entries_in (drop at c) ≡ f ∷ rest
    opened f q = turn_on c at len e found long n ∙ ap (λ x. x ∷ rest) q

    pub listed-other : ((id : Place) (line : ℕ) → e ≡ Program id line → ⊥) → Listed c ats lens from widths count (at + len)
    listed-other h =
        let o : entries_in (drop at c) ≡ e ∷ rest = opened e refl in
        let f = other-first e rest h in
        record {
          ns = x.ns;
          id-at = x.id-at;
          id-len = x.id-len;
          previous-at = x.previous-at;
          previous-len = x.previous-len;
          counts = x.counts;
          joined = x.joined ∙ ap (λ es. x.ns ++ es) (ap noted_in o ∙ f.0);
          room = omega (arith, x.room, ap (counted 4) o, f.1);
        }

    module _ (p : Place) (l : ℕ) (is : e ≡ Program p l) where
      fewer : count + suc (counted 4 rest) ≤ 1024
      fewer = omega (arith, x.room, ap (counted 4) (opened (Program p l) is), (program-first p l rest).1)

      pub listed-room : count < 1024
      listed-room = omega (arith, fewer)

      pub listed_more : (q : Place) → q ≡ or_nowhere (value_in 80 80 rest)
          → Listed c (set ats count p.at) (set lens count p.len) (set from count q.at) (set widths count q.len) (count + 1) (at + len)
      listed_more q k =
          let n : ProgramPlaces = record { id = p; previous = q } in
          let o : noted_in (entries_in (drop at c)) ≡ n ∷ noted_in rest =
          ap noted_in (opened (Program p l) is) ∙ (program-first p l rest).0 ∙ ap (λ r. record { id = p; previous = r } ∷ noted_in rest) (sym k) in
          record {
            ns = x.ns ++ (n ∷ []);
            id-at = kept_more (λ n. n.id.at) x.ns n ats count p.at x.id-at x.counts listed-room refl;
            id-len = kept_more (λ n. n.id.len) x.ns n lens count p.len x.id-len x.counts listed-room refl;
            previous-at = kept_more (λ n. n.previous.at) x.ns n from count q.at x.previous-at x.counts listed-room refl;
            previous-len = kept_more (λ n. n.previous.len) x.ns n widths count q.len x.previous-len x.counts listed-room refl;
            counts = omega (arith, x.counts, length-append x.ns (n ∷ []));
            joined = x.joined ∙ ap (λ es. x.ns ++ es) o ∙ sym (append_snoc x.ns n (noted_in rest));
            room = omega (arith, fewer);
          }
