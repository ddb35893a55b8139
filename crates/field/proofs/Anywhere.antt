-- What a field answers does not depend on where its line is.
use Prim.Native.Nat.{ℕ, ◌+◌}
use mathlib.Core.Path.{◌≡◌, refl, sym, ◌∙◌}
use mathlib.Core.Bool.{Bool, true, false, cond}
use mathlib.Core.List.{List, [], ◌∷◌}
use lib.Dec.{eqb}
use borrow.Author.Tests.{eqb-true, eqb-false}
use Rattle.format.specs.Fields.{refused_piece, allows, field, value_field, is_tag}
use Rattle.format.specs.declared.Kind.{Kind}
use Rattle.field_tag.specs.Numbers.{is_version, is_length}
use Rattle.field.specs.Taken.{taken_of}
use Rattle.field.specs.Parsed.{parsed_of}
use Rattle.field.proofs.Judged.{value-length, value_none, value-version, value-kept}

module _ (a b at to : ℕ) (v : List ℕ) (k : Kind) where
  value-anywhere : parsed_of k (value_field k a b at v) ≡ parsed_of k (value_field k a b to v)
  value-anywhere = go (is_length k a b) refl (eqb (taken_of (allows k a b) v) 0) refl (is_version k a b) refl
    where
      go : (t : Bool) → is_length k a b ≡ t → (z : Bool) → eqb (taken_of (allows k a b) v) 0 ≡ z → (u : Bool) → is_version k a b ≡ u
          → parsed_of k (value_field k a b at v) ≡ parsed_of k (value_field k a b to v)
      go true e z f u d = value-length a b at v k e ∙ sym (value-length a b to v k e)
      go false e true f u d = value_none a b at v k e (eqb-true _ _ f) ∙ sym (value_none a b to v k e (eqb-true _ _ f))
      go false e false f true d = value-version a b at v k d (eqb-false _ _ f) ∙ sym (value-version a b to v k d (eqb-false _ _ f))
      go false e false f false d = value-kept a b at v k e d (eqb-false _ _ f) ∙ sym (value-kept a b to v k e d (eqb-false _ _ f))

pub field-anywhere : (k : Kind) (at : ℕ) (p : List ℕ) → parsed_of k (field k at p) ≡ parsed_of k (field k 0 p)
unfolding field
field-anywhere k at [] = refl
field-anywhere k at (a ∷ []) = refl
field-anywhere k at (a ∷ b ∷ []) = refl
field-anywhere k at (a ∷ b ∷ c ∷ v) = go (is_tag a b) (eqb c 58)
  where
    go : (t u : Bool)
        → parsed_of k (cond t (cond u (value_field k a b (at + 3) v) (refused_piece 9)) (refused_piece 8)) ≡ parsed_of k (cond t (cond u (value_field k a b 3 v) (refused_piece 9)) (refused_piece 8))
    go true true = value-anywhere a b (at + 3) 3 v k
    go true false = refl
    go false u = refl
