-- Two lists of references compared one after another.
use mathlib.Core.Path.{◌≡◌, refl, sym, ap, ◌∙◌}
use mathlib.Core.Bool.{Bool, true, false, ◌&&◌}
use mathlib.Core.List.{List, [], ◌∷◌}
use borrow.Author.Tests.{eq-eqb, ne_eqb}
use Rattle.format.specs.Bytes.{same}
use Rattle.format.specs.References.{Reference, same_reference, same_references}

-- ---- one reference

module _ (r q : Reference) where
  pub other-size : (r.size ≡ q.size → ⊥) → false ≡ same_reference r q
  unfolding same_reference
  other-size h = sym (ap (λ t. same r.name q.name && t) (ne_eqb r.size q.size h) ∙ go (same r.name q.name))
    where
      go : (t : Bool) → (t && false) ≡ false
      go true = refl
      go false = refl

  pub one_size : r.size ≡ q.size → same r.name q.name ≡ same_reference r q
  unfolding same_reference
  one_size h = sym (ap (λ t. same r.name q.name && t) (eq-eqb r.size q.size h) ∙ go (same r.name q.name))
    where
      go : (t : Bool) → (t && true) ≡ t
      go true = refl
      go false = refl

-- ---- the lists

module _ {rs qs : List Reference} where
  pub both_end : rs ≡ [] → qs ≡ [] → same_references rs qs ≡ true
  unfolding same_references
  both_end a b = rw (a, b) refl

  pub one-ends : (q : Reference) (more : List Reference) → rs ≡ [] → qs ≡ q ∷ more → same_references rs qs ≡ false
  unfolding same_references
  one-ends q more a b = rw (a, b) refl

  pub other-ends : (r : Reference) (more : List Reference) → rs ≡ r ∷ more → qs ≡ [] → same_references rs qs ≡ false
  unfolding same_references
  other-ends r more a b = rw (a, b) refl

  module _ (r q : Reference) (rs' qs' : List Reference) (a : rs ≡ r ∷ rs') (b : qs ≡ q ∷ qs') where
    pub first-differs : same_reference r q ≡ false → same_references rs qs ≡ false
    unfolding same_references
    first-differs e = rw (a, b, e) refl

    pub first_alike : same_reference r q ≡ true → same_references rs qs ≡ same_references rs' qs'
    unfolding same_references
    first_alike e = rw (a, b, e) refl
