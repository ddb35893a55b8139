-- The laws of gathering: a step passes a PG line, which goes to the end of the arrays.
use Prim.Native.Nat.{ℕ, suc, ◌+◌, ◌-◌, ◌≤◌, ◌<◌}
use mathlib.Core.Path.{◌≡◌, refl, sym, ap, subst, ◌∙◌}
use mathlib.Core.Bool.{Bool, true}
use mathlib.Core.List.{List, [], ◌∷◌, ◌++◌, map, map-map, append-nil}
use native.Mathlib.Omega.{arith}
use lib.ListN.{length, take, drop, set, replicate, length-append, length-map, length-drop}
use lib.Seq.{append_snoc, length-take-le}
use Rattle.format.specs.Lines.{Piece}
use Rattle.format.specs.Records.{Record}
use Rattle.format.specs.Reading.{read_text, of_kind}
use Rattle.accepted_rule.specs.Rule.{ReadsBy}
use Rattle.byte_slices.specs.Stands.{Each}
use Rattle.accepted.specs.Read.{is_accepted, records_of}
use Rattle.accepted.proofs.Read.{accepted-reads}
use Rattle.accepted.proofs.Text.{text-fits, text-programs}
use Rattle.lists.proofs.Pairs.{pairs-left, pairs-length}
use Rattle.program_chains.specs.Parents.{in_array}
use Rattle.program_chains.proofs.Arrays.{array-push}
use Rattle.catalogue_entries.specs.declared.Place.{Place}
use Rattle.accepted_line.specs.Next.{last_in}
use Rattle.program_places.specs.declared.Places.{Places}
use Rattle.program_places.specs.declared.Programs.{Programs}
use Rattle.program_places.proofs.Noting.{map_snoc}
use Rattle.program_places.specs.Gathered.{arrays_of, gathered_of}
use Rattle.program_lines.specs.Line.{FieldsOf}
use Rattle.program_lines.specs.Found.{pg_from, told_line, told_lines, place_of, previous_of, notes_of, lines_of, NextLineInText}
use Rattle.program_lines.specs.declared.NextLine.{NextLine}
use Rattle.std.specs.Prelude.{Some, None}
use Rattle.program_lines.proofs.Accepted.{IsProgram, fielded, text-program-lines}

-- ---- arrays

-- one number of each line is in an array
abbrev Kept : (Piece → ℕ) → List Piece → List ℕ → Type 0
Kept f ps xs = xs ≡ in_array (map f ps)

-- and that of one more line
kept_more : (f : Piece → ℕ) (ps : List Piece) (p : Piece) (xs : List ℕ) (count v : ℕ) → Kept f ps xs → length ps ≡ count → count < 1024 → v ≡ f p → Kept f (ps ++ (p ∷ [])) (set xs count v)
kept_more f ps p xs count v k l h e =
    let m : length (map f ps) ≡ count = length-map ps f ∙ l in
    rw (k, ← m, e) (array-push (map f ps) (f p) (omega arith) ∙ ap in_array (map_snoc f ps p))

-- it is a program's line
pub record IsProgramLine (strict : Bool) (p : Piece) : Type 0 where
  pub is : Record
  pub program : IsProgram strict p is

-- ---- one after another

-- the lines before `at` are in the arrays, and those from there on are all the others
pub record Listed (t : List ℕ) (strict : Bool) (starts sizes ats lens from widths : List ℕ) (count at : ℕ) : Type 0 where
  pub ps : List Piece
  pub line_at : Kept (λ p. p.at) ps starts
  pub line-len : Kept (λ p. length p.bytes) ps sizes
  pub id-at : Kept (λ p. (notes_of p).id.at) ps ats
  pub id-len : Kept (λ p. (notes_of p).id.len) ps lens
  pub previous-at : Kept (λ p. (notes_of p).previous.at) ps from
  pub previous-len : Kept (λ p. (notes_of p).previous.len) ps widths
  pub counts : length ps ≡ count
  pub joined : pg_from t 0 ≡ ps ++ pg_from t at
  pub each : Each (IsProgramLine strict) (pg_from t at)
  pub room : count + length (pg_from t at) ≤ 1024
  pub within : at ≤ length t
  pub fits : length t ≤ 16777216

abbrev zeros : List ℕ
zeros = replicate 1024 0

pub listed-none : (t : List ℕ) (strict : Bool) → is_accepted (read_text t) ≡ true → ReadsBy strict t → Listed t strict zeros zeros zeros zeros zeros zeros 0 0
unfolding in_array
listed-none t strict h s =
    let reads = accepted-reads t h in
    let pairs = text-program-lines strict t (records_of t) reads s in
    record {
      ps = [];
      line_at = refl;
      line-len = refl;
      id-at = refl;
      id-len = refl;
      previous-at = refl;
      previous-len = refl;
      counts = refl;
      joined = refl;
      each = pairs-left (IsProgram strict) (IsProgramLine strict) (λ p r i. record { is = r; program = i }) (pg_from t 0) (of_kind 4 (records_of t)) pairs;
      room = omega (arith, pairs-length (IsProgram strict) (pg_from t 0) (of_kind 4 (records_of t)) pairs, text-programs t (records_of t) reads);
      within = omega arith;
      fits = text-fits t (records_of t) reads;
    }

-- the whole
whole-programs : (ps : List Piece) (ats lens from widths : List ℕ) (count : ℕ)
    → Kept (λ p. (notes_of p).id.at) ps ats → Kept (λ p. (notes_of p).id.len) ps lens → Kept (λ p. (notes_of p).previous.at) ps from → Kept (λ p. (notes_of p).previous.len) ps widths → length ps ≡ count
    → ◌≡◌ {A = Programs} (record { id = record { at = ats; len = lens }; previous = record { at = from; len = widths }; count = count }) (gathered_of (map notes_of ps))
unfolding gathered_of arrays_of
whole-programs ps ats lens from widths count a b d e m =
    rw (a, b, d, e, ← m, map-map (λ n. n.id.at) notes_of ps, map-map (λ n. n.id.len) notes_of ps, map-map (λ n. n.previous.at) notes_of ps, map-map (λ n. n.previous.len) notes_of ps, length-map ps notes_of) refl

whole-lines : (ps : List Piece) (starts sizes : List ℕ) → Kept (λ p. p.at) ps starts → Kept (λ p. length p.bytes) ps sizes → ◌≡◌ {A = Places} (record { at = starts; len = sizes }) (lines_of ps)
unfolding lines_of
whole-lines ps starts sizes a b = rw (a, b) refl

module _ (t : List ℕ) (strict : Bool) (starts sizes ats lens from widths : List ℕ) (count at : ℕ) (x : Listed t strict starts sizes ats lens from widths count at) where
  pub listed-all : pg_from t at ≡ told_lines t None
      → (◌≡◌ {A = Programs} (record { id = record { at = ats; len = lens }; previous = record { at = from; len = widths }; count = count }) (gathered_of (map notes_of (pg_from t 0))))
      × (◌≡◌ {A = Places} (record { at = starts; len = sizes }) (lines_of (pg_from t 0)))
  unfolding told_lines
  listed-all e =
      let o : pg_from t 0 ≡ x.ps = x.joined ∙ ap (λ l. x.ps ++ l) e ∙ append-nil x.ps in (
        whole-programs x.ps ats lens from widths count x.id-at x.id-len x.previous-at x.previous-len x.counts ∙ ap (λ ps. gathered_of (map notes_of ps)) (sym o),
        whole-lines x.ps starts sizes x.line_at x.line-len ∙ ap lines_of (sym o),
      )

  module _ (r : NextLine) (e : pg_from t at ≡ told_lines t (Some r)) (i : NextLineInText t at r) where
    abbrev p : Piece
    p = told_line t r

    opened : pg_from t at ≡ p ∷ pg_from t r.next
    unfolding told_lines
    opened = e

    fewer : count + suc (length (pg_from t r.next)) ≤ 1024
    fewer = omega (arith, x.room, ap length opened)

    pub listed-room : count < 1024
    listed-room = omega (arith, fewer)

    size : length p.bytes ≡ r.len
    unfolding told_line
    size = length-take-le r.len (drop r.at t) (omega (arith, length-drop r.at t, i.line))

    split-each : IsProgramLine strict p × Each (IsProgramLine strict) (pg_from t r.next)
    unfolding Each
    split-each = subst (Each (IsProgramLine strict)) opened x.each

    -- the line of a step, as it is lent
    pub listed-fields : FieldsOf strict r.at (take (r.at + r.len - r.at) (drop r.at t))
    unfolding told_line
    listed-fields =
        let m : r.len ≡ r.at + r.len - r.at = omega arith in
        subst (λ n. FieldsOf strict r.at (take n (drop r.at t))) m (fielded strict p split-each.0.is split-each.0.program (omega (arith, size, i.line, x.fits)))

    pub listed_more : (id previous : Place) → id ≡ place_of (last_in r.at (take (r.at + r.len - r.at) (drop r.at t)) 73 68) → previous ≡ previous_of (last_in r.at (take (r.at + r.len - r.at) (drop r.at t)) 80 80)
        → Listed t strict (set starts count r.at) (set sizes count r.len) (set ats count id.at) (set lens count id.len) (set from count previous.at) (set widths count previous.len) (count + 1) r.next
    unfolding told_line notes_of
    listed_more id previous a b =
        let m : r.at + r.len - r.at ≡ r.len = omega arith in
        let j : id ≡ (notes_of p).id = a ∙ ap (λ n. place_of (last_in r.at (take n (drop r.at t)) 73 68)) m in
        let k : previous ≡ (notes_of p).previous = b ∙ ap (λ n. previous_of (last_in r.at (take n (drop r.at t)) 80 80)) m in
        record {
          ps = x.ps ++ (p ∷ []);
          line_at = kept_more (λ p. p.at) x.ps p starts count r.at x.line_at x.counts listed-room refl;
          line-len = kept_more (λ p. length p.bytes) x.ps p sizes count r.len x.line-len x.counts listed-room (sym size);
          id-at = kept_more (λ p. (notes_of p).id.at) x.ps p ats count id.at x.id-at x.counts listed-room (ap (λ q. q.at) j);
          id-len = kept_more (λ p. (notes_of p).id.len) x.ps p lens count id.len x.id-len x.counts listed-room (ap (λ q. q.len) j);
          previous-at = kept_more (λ p. (notes_of p).previous.at) x.ps p from count previous.at x.previous-at x.counts listed-room (ap (λ q. q.at) k);
          previous-len = kept_more (λ p. (notes_of p).previous.len) x.ps p widths count previous.len x.previous-len x.counts listed-room (ap (λ q. q.len) k);
          counts = omega (arith, x.counts, length-append x.ps (p ∷ []));
          joined = x.joined ∙ ap (λ l. x.ps ++ l) opened ∙ sym (append_snoc x.ps p (pg_from t r.next));
          each = split-each.1;
          room = omega (arith, fewer);
          within = i.within;
          fits = x.fits;
        }
