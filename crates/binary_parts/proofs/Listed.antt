-- A reference list, one reference after another.
use Prim.Native.Nat.{ℕ, suc, ◌-◌, ◌≤◌, ◌<◌}
use mathlib.Core.Path.{◌≡◌, refl, sym, ap, ◌∙◌}
use mathlib.Core.Bool.{true, false, false≢true}
use mathlib.Core.List.{List, [], ◌∷◌}
use mathlib.Core.Option as maybe
use mathlib.Core.Option.{none, some}
use Rattle.std.specs.Prelude.{Option, None, Some}
use native.Mathlib.Omega.{arith}
use lib.ListN.{length, drop, length-drop}
use lib.Dec.{eqb}
use borrow.Author.Tests.{eq-eqb, ne_eqb}
use Rattle.format.specs.Bytes.{none?}
use Rattle.format.specs.References.{Reference}
use Rattle.format.specs.Binary.{and_then, take_reference, take_list}
use Rattle.binary_parts.specs.declared.ReferenceAt.{ReferenceAt}
use Rattle.binary_parts.specs.Parts.{reference_in, reference_from, is_whole, listed}

module _ (s : List ℕ) (at left : ℕ) (k : 0 < left) where
  one_less : left ≡ suc (left - 1)
  one_less = omega arith

  pub list-short : take_reference (drop at s) ≡ reference_from s None → is_whole (take_list left (drop at s)) ≡ false
  unfolding is_whole take_list and_then reference_from
  list-short e = ap (λ n. is_whole (take_list n (drop at s))) one_less ∙ rw e refl

  -- a whole list has its first reference
  pub list-whole : (r : Option ReferenceAt) → take_reference (drop at s) ≡ reference_from s r → is_whole (take_list left (drop at s)) ≡ true → r ≡ None → ⊥
  list-whole r e w z = false≢true (sym (list-short (e ∙ ap (reference_from s) z)) ∙ w)

  module _ (r : ReferenceAt) (e : take_reference (drop at s) ≡ reference_from s (Some r)) where
    opened : take_list left (drop at s) ≡ and_then (take_list (left - 1) (drop r.next s)) (λ rs. some (reference_in s r ∷ rs.0, rs.1))
    unfolding take_list and_then reference_from reference_in
    opened = ap (λ n. take_list n (drop at s)) one_less ∙ rw e refl

    pub list_on : is_whole (take_list left (drop at s)) ≡ is_whole (take_list (left - 1) (drop r.next s))
    unfolding is_whole and_then
    list_on = ap is_whole opened ∙ go (take_list (left - 1) (drop r.next s))
      where
        go : (o : maybe.Option (List Reference × List ℕ)) → is_whole (and_then o (λ rs. some (reference_in s r ∷ rs.0, rs.1))) ≡ is_whole o
        go none = refl
        go (some p) = refl

    pub list-first : is_whole (take_list left (drop at s)) ≡ true
        → listed (take_list left (drop at s)) ≡ reference_in s r ∷ listed (take_list (left - 1) (drop r.next s))
    unfolding is_whole and_then listed
    list-first w = ap listed opened ∙ go (take_list (left - 1) (drop r.next s)) (sym list_on ∙ w)
      where
        go : (o : maybe.Option (List Reference × List ℕ)) → is_whole o ≡ true → listed (and_then o (λ rs. some (reference_in s r ∷ rs.0, rs.1))) ≡ reference_in s r ∷ listed o
        go none h = absurd (false≢true h)
        go (some p) h = refl

pub list-end : (s : List ℕ) (at : ℕ) → at ≤ length s → eqb at (length s) ≡ is_whole (take_list 0 (drop at s))
unfolding is_whole take_list none?
list-end s at h = go (drop at s) (length-drop at s)
  where
    go : (t : List ℕ) → length t ≡ length s - at → eqb at (length s) ≡ none? t
    go [] e = eq-eqb at (length s) (omega arith)
    go (b ∷ t) e = ne_eqb at (length s) (λ z. omega arith)

pub listed-done : (s : List ℕ) → listed (take_list 0 s) ≡ []
unfolding listed take_list
listed-done s = refl
