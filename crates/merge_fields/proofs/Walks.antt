-- Two walks side by side: what is left of the one and of the other.
use mathlib.Core.Path.{◌≡◌, refl}
use mathlib.Core.Bool.{true, false, ◌&&◌}
use mathlib.Core.List.{List, [], ◌∷◌}
use Rattle.format.specs.Fields.{Field}
use Rattle.format.specs.Merge.{alike, same_field, keeps_fields}

module _ (fs gs : List Field) where
  pub both_end : fs ≡ [] → gs ≡ [] → keeps_fields fs gs ≡ true
  unfolding keeps_fields alike
  both_end e d = rw (e, d) refl

  pub first_ends : (g : Field) (ys : List Field) → fs ≡ [] → gs ≡ g ∷ ys → keeps_fields fs gs ≡ false
  unfolding keeps_fields alike
  first_ends g ys e d = rw (e, d) refl

  pub second-ends : (f : Field) (xs : List Field) → fs ≡ f ∷ xs → gs ≡ [] → keeps_fields fs gs ≡ false
  unfolding keeps_fields alike
  second-ends f xs e d = rw (e, d) refl

  pub both-go-on : (f g : Field) (xs ys : List Field) → fs ≡ f ∷ xs → gs ≡ g ∷ ys → keeps_fields fs gs ≡ same_field f g && keeps_fields xs ys
  unfolding keeps_fields alike
  both-go-on f g xs ys e d = rw (e, d) refl
