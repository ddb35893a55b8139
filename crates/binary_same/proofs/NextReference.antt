-- One step of the comparison: a reference of the binary header and the next SQ of the text.
use Prim.Native.Nat.{ℕ, ◌-◌, ◌<◌}
use mathlib.Core.Path.{◌≡◌, refl, sym, ap, ◌∙◌}
use mathlib.Core.Bool.{Bool, true, false}
use mathlib.Core.List.{List, [], ◌∷◌}
use lib.ListN.{drop}
use Rattle.std.specs.Prelude.{Option, None, Some, is_none, IsSome}
use Rattle.format.specs.References.{same_reference, same_references}
use Rattle.format.specs.Binary.{take_reference, take_list}
use Rattle.binary_parts.specs.declared.ReferenceAt.{ReferenceAt}
use Rattle.binary_parts.specs.Parts.{reference_in, reference_from, is_whole, listed}
use Rattle.binary_parts.proofs.Listed.{list-whole, list_on, list-first, listed-done}
use Rattle.binary_references.specs.declared.NextReference.{NextReference}
use Rattle.binary_references.specs.Next.{sq_from, told_reference, told_list}
use Rattle.binary_references.proofs.Next.{told-one, told_none}
use Rattle.binary_same.proofs.Alike.{both_end, one-ends, other-ends, first-differs, first_alike}

-- the references left on both sides, one by one
abbrev pub alike_from : List ℕ → List ℕ → Bool → ℕ → ℕ → ℕ → Bool
alike_from s t strict at left line = same_references (listed (take_list left (drop at s))) (sq_from strict t line)

module _ (s t : List ℕ) (strict : Bool) (at left line : ℕ) (w : is_whole (take_list left (drop at s)) ≡ true) where
  pub list-ends : (q : Option NextReference) → sq_from strict t line ≡ told_list strict t q → left ≡ 0 → is_none q ≡ alike_from s t strict at left line
  list-ends q e z = go q e
    where
      none : listed (take_list left (drop at s)) ≡ []
      none = ap (λ n. listed (take_list n (drop at s))) z ∙ listed-done (drop at s)

      go : (q : Option NextReference) → sq_from strict t line ≡ told_list strict t q → is_none q ≡ alike_from s t strict at left line
      go None e = sym (both_end none (e ∙ told_none strict t))
      go (Some n) e = sym (one-ends (told_reference t n) (sq_from strict t n.next) none (e ∙ told-one strict t n))

  module _ (k : 0 < left) where
    -- a reference is left
    pub one-left : (r : Option ReferenceAt) → take_reference (drop at s) ≡ reference_from s r → IsSome r
    one-left None f = absurd (list-whole s at left k None f w refl)
    one-left (Some r) f = refl

    module _ (r : ReferenceAt) (f : take_reference (drop at s) ≡ reference_from s (Some r)) where
      first : listed (take_list left (drop at s)) ≡ reference_in s r ∷ listed (take_list (left - 1) (drop r.next s))
      first = list-first s at left k r f w

      pub still-whole : is_whole (take_list (left - 1) (drop r.next s)) ≡ true
      still-whole = sym (list_on s at left k r f) ∙ w

      pub text-ends : sq_from strict t line ≡ told_list strict t None → alike_from s t strict at left line ≡ false
      text-ends e = other-ends (reference_in s r) (listed (take_list (left - 1) (drop r.next s))) first (e ∙ told_none strict t)

      module _ (q : NextReference) (e : sq_from strict t line ≡ told_list strict t (Some q)) where
        next : sq_from strict t line ≡ told_reference t q ∷ sq_from strict t q.next
        next = e ∙ told-one strict t q

        pub one-differs : same_reference (reference_in s r) (told_reference t q) ≡ false → alike_from s t strict at left line ≡ false
        one-differs = first-differs (reference_in s r) (told_reference t q) (listed (take_list (left - 1) (drop r.next s))) (sq_from strict t q.next) first next

        pub one_alike : same_reference (reference_in s r) (told_reference t q) ≡ true → alike_from s t strict at left line ≡ alike_from s t strict r.next (left - 1) q.next
        one_alike = first_alike (reference_in s r) (told_reference t q) (listed (take_list (left - 1) (drop r.next s))) (sq_from strict t q.next) first next
