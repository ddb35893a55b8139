-- All of a list is a value exactly if what is taken of it, up to its first tab, is one and is all of it.
use Prim.Native.Nat.{ℕ, suc, ◌<◌}
use mathlib.Core.Path.{◌≡◌, refl, sym, ap, ◌∙◌}
use mathlib.Core.Bool.{Bool, true, false, not, ◌&&◌, cond, and-false}
use mathlib.Core.List.{List, [], ◌∷◌}
use mathlib.Core.Logic.{⊎_elim}
use native.Mathlib.Omega.{arith}
use lib.ListN.{length}
use lib.Seq.{take_all}
use lib.Dec.{eqb}
use borrow.Author.Tests.{eqb-true, eq-eqb, ne_eqb}
use Rattle.format.specs.Bytes.{printable, all, none?}
use Rattle.format.specs.Fields.{is_value}
use Rattle.byte_slices.specs.Upto.{upto, before}
use Rattle.byte_slices.proofs.Before.{upto-cases, before-length}
use Rattle.field.specs.Taken.{taken_of}
use Rattle.field.proofs.value.Taken.{a-value, no_value_lem}

-- a tab can't be printed
all-tab : (s : List ℕ) → upto 9 s < length s → all printable s ≡ false
unfolding all upto printable
all-tab [] h = absurd (omega arith)
all-tab (b ∷ s) h = go (eqb b 9) refl h (all-tab s)
  where
    go : (t : Bool) → eqb b 9 ≡ t → cond t 0 (suc (upto 9 s)) < suc (length s) → (upto 9 s < length s → all printable s ≡ false) → printable b && all printable s ≡ false
    go true e h ih = rw (eqb-true b 9 e) refl
    go false e h ih = ap (λ t. printable b && t) (ih (omega arith)) ∙ and-false (printable b)

module _ (s : List ℕ) where
  with-tab : upto 9 s < length s → is_value s ≡ false
  unfolding is_value
  with-tab h = ap (λ t. not (none? s) && t) (all-tab s h) ∙ and-false (not (none? s))

  without-tab : upto 9 s ≡ length s → is_value (before 9 s) ≡ is_value s
  unfolding before
  without-tab h = ap is_value (take_all (upto 9 s) s (omega arith))

  pub value-wrong : taken_of is_value (before 9 s) ≡ 0 → is_value s ≡ false
  unfolding is_value
  value-wrong e = ⊎_elim with-tab (λ h. sym (without-tab h) ∙ no_value_lem is_value refl (before 9 s) e) (upto-cases 9 s)

  pub value_taken : (n : ℕ) → n ≡ taken_of is_value (before 9 s) → (n ≡ 0 → ⊥) → eqb n (length s) ≡ is_value s
  value_taken n e z = ⊎_elim less whole (upto-cases 9 s)
    where
      v : (is_value (before 9 s) ≡ true) × (taken_of is_value (before 9 s) ≡ length (before 9 s))
      v = a-value is_value (before 9 s) (λ q. z (e ∙ q))

      l : n ≡ upto 9 s
      l = e ∙ v.1 ∙ before-length 9 s

      less : upto 9 s < length s → eqb n (length s) ≡ is_value s
      less h = ne_eqb n (length s) (λ q. omega (arith, l)) ∙ sym (with-tab h)

      whole : upto 9 s ≡ length s → eqb n (length s) ≡ is_value s
      whole h = eq-eqb n (length s) (l ∙ h) ∙ sym (sym (without-tab h) ∙ v.0)
