-- What taking a value says: the bytes are a value, or they are not.
use Prim.Native.Nat.{ℕ}
use mathlib.Core.Path.{◌≡◌, refl, sym, ◌∙◌}
use mathlib.Core.Bool.{Bool, true, false, cond, false≢true}
use mathlib.Core.List.{List, [], ◌∷◌}
use native.Mathlib.Omega.{arith}
use lib.ListN.{length}
use Rattle.format.specs.Fields.{is_value, is_wide_value, is_wide, allows}
use Rattle.format.specs.declared.Kind.{Kind}
use Rattle.field.specs.Taken.{taken_of}

module _ (p : List ℕ → Bool) where
  pub a-value : (v : List ℕ) → (taken_of p v ≡ 0 → ⊥) → (p v ≡ true) × (taken_of p v ≡ length v)
  unfolding taken_of
  a-value v n = go (p v) refl n
    where
      go : (t : Bool) → p v ≡ t → (cond t (length v) 0 ≡ 0 → ⊥) → (p v ≡ true) × (cond t (length v) 0 ≡ length v)
      go true k n = (k, refl)
      go false k n = absurd (n refl)

  -- a value has at least one byte
  module _ (n : p [] ≡ false) where
    pub some-value : (v : List ℕ) → p v ≡ true → length v ≡ 0 → ⊥
    some-value [] h e = false≢true (sym n ∙ h)
    some-value (b ∷ v) h e = omega arith

    pub no_value_lem : (v : List ℕ) → taken_of p v ≡ 0 → p v ≡ false
    unfolding taken_of
    no_value_lem v e = go (p v) refl e
      where
        go : (t : Bool) → p v ≡ t → cond t (length v) 0 ≡ 0 → p v ≡ false
        go true k e = absurd (some-value v k e)
        go false k e = k

pub none_allowed : (k : Kind) (a b : ℕ) → allows k a b [] ≡ false
unfolding allows is_wide_value is_value
none_allowed k a b = go (is_wide k a b)
  where
    go : (t : Bool) → cond t false false ≡ false
    go true = refl
    go false = refl
