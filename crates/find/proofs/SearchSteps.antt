-- A step of the search for a key: what the entries ahead say is the answer, and the bytes at an entry's place decide.
use Prim.Native.Nat.{ℕ, suc, ◌+◌, ◌≤◌, ◌<◌}
use mathlib.Core.Path.{◌≡◌, refl, sym, ap, subst, ◌∙◌}
use mathlib.Core.Bool.{Bool, true, false, cond}
use mathlib.Core.List.{List, ◌∷◌}
use mathlib.Core.Option.{none, some}
use native.Mathlib.Omega.{arith}
use borrow.Author.Tests.{eq-eqb, ne_eqb}
use lib.ListN.{length, take, drop, length-drop}
use lib.Seq.{length-take-le}
use Rattle.format.specs.Bytes.{same}
use Rattle.byte_slices.specs.Stands.{Each}
use Rattle.byte_slices.proofs.Equal.{same-other}
use Rattle.catalogue_entries.specs.declared.Entry.{Entry}
use Rattle.catalogue_entries.specs.Entries.{kind_byte, entry_size, entry_of, entries_in, counted}
use Rattle.catalogue_entries.proofs.Walk.{turn_end, turn-within, turn_on}
use Rattle.program_ids.specs.Places.{InsideText, bytes_at}
use Rattle.program_ids.specs.Search.{id_ordinal_from}
use Rattle.find.specs.Keys.{key_place, keys_in, KeysInText}

-- what the search still has to look at, from `at` on with `n` of the kind passed, decides
pub record Ahead (t c : List ℕ) (k : ℕ) (x : List ℕ) (at n : ℕ) : Type 0 where
  pub within : at ≤ length c
  pub inside : Each (λ e. InsideText (length t) (key_place e)) (entries_in (drop at c))
  pub few : n + counted k (entries_in (drop at c)) ≤ 16777216
  pub decides : id_ordinal_from x 0 (keys_in t k (entries_in c)) ≡ id_ordinal_from x n (keys_in t k (entries_in (drop at c)))

pub ahead-all : (t c : List ℕ) (k : ℕ) (x : List ℕ) → KeysInText t k (entries_in c) → Ahead t c k x 0 0
ahead-all t c k x h = record { within = omega arith; inside = h.inside; few = omega (arith, h.few); decides = refl }

-- a search that is at `at` and found `e` there, `len` bytes long
module _ (t c : List ℕ) (k : ℕ) (x : List ℕ) (at n len : ℕ) (e : Entry) (found : e ≡ entry_of (drop at c)) (long : len ≡ entry_size e) (a : Ahead t c k x at n) where
  pub search-end : len ≡ 0 → id_ordinal_from x 0 (keys_in t k (entries_in c)) ≡ none
  unfolding keys_in id_ordinal_from
  search-end h = a.decides ∙ ap (λ es. id_ordinal_from x n (keys_in t k es)) (turn_end c at len e found long h)

  module _ (h : len ≡ 0 → ⊥) where
    opened : entries_in (drop at c) ≡ e ∷ entries_in (drop (at + len) c)
    opened = turn_on c at len e found long h

    pub turn-fits : at + len ≤ length c
    turn-fits = turn-within c at len e found long h

    both : InsideText (length t) (key_place e) × Each (λ e. InsideText (length t) (key_place e)) (entries_in (drop (at + len) c))
    unfolding Each
    both = subst (Each (λ e. InsideText (length t) (key_place e))) opened a.inside

    pub key-inside : (key_place e).at + (key_place e).len ≤ length t
    key-inside = both.0

    -- it is of another kind
    module _ (q : kind_byte e ≡ k → ⊥) where
      as_many : counted k (entries_in (drop at c)) ≡ counted k (entries_in (drop (at + len) c))
      unfolding counted
      as_many = ap (counted k) opened ∙ rw (ne_eqb (kind_byte e) k q) refl

      pub turn-kind : Ahead t c k x (at + len) n
      unfolding keys_in
      turn-kind = record {
        within = turn-fits;
        inside = both.1;
        few = omega (arith, a.few, as_many);
        decides = a.decides ∙ ap (λ es. id_ordinal_from x n (keys_in t k es)) opened ∙ rw (ne_eqb (kind_byte e) k q) refl;
      }

    -- it is of the kind
    module _ (q : kind_byte e ≡ k) where
      more : counted k (entries_in (drop at c)) ≡ suc (counted k (entries_in (drop (at + len) c)))
      unfolding counted
      more = ap (counted k) opened ∙ rw (eq-eqb (kind_byte e) k q) refl

      pub turn-few : n < 16777216
      turn-few = omega (arith, a.few, more)

      first : id_ordinal_from x 0 (keys_in t k (entries_in c))
          ≡ cond (same x (bytes_at t (key_place e))) (some n) (id_ordinal_from x (n + 1) (keys_in t k (entries_in (drop (at + len) c))))
      unfolding keys_in id_ordinal_from
      first = a.decides ∙ ap (λ es. id_ordinal_from x n (keys_in t k es)) opened ∙ rw (eq-eqb (kind_byte e) k q) refl

      pub turn-on-key : same x (bytes_at t (key_place e)) ≡ false → Ahead t c k x (at + len) (n + 1)
      turn-on-key s = record { within = turn-fits; inside = both.1; few = omega (arith, a.few, more); decides = first ∙ rw s refl }

      -- the key there has another length
      pub turn-length : ((key_place e).len ≡ length x → ⊥) → Ahead t c k x (at + len) (n + 1)
      unfolding bytes_at
      turn-length d =
          let l : length (bytes_at t (key_place e)) ≡ (key_place e).len = length-take-le (key_place e).len (drop (key_place e).at t) (omega (arith, length-drop (key_place e).at t, key-inside)) in
          turn-on-key (same-other x (bytes_at t (key_place e)) (λ z. d (sym (ap length z ∙ l))))

      -- it is as long
      module _ (s : (key_place e).len ≡ length x) where
        bytes : (b : Bool) → same x (take (length x) (drop (key_place e).at t)) ≡ b → same x (bytes_at t (key_place e)) ≡ b
        unfolding bytes_at
        bytes b z = ap (λ m. same x (take m (drop (key_place e).at t))) s ∙ z

        pub turn-here : same x (take (length x) (drop (key_place e).at t)) ≡ true → id_ordinal_from x 0 (keys_in t k (entries_in c)) ≡ some n
        turn-here z = first ∙ rw (bytes true z) refl

        pub turn-differs : same x (take (length x) (drop (key_place e).at t)) ≡ false → Ahead t c k x (at + len) (n + 1)
        turn-differs z = turn-on-key (bytes false z)
