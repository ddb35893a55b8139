-- The table of forms by ranges of the first byte: what is due after all bytes of a range is computed once.
use Prim.Native.Nat.{ℕ, ◌≤◌}
use mathlib.Core.Path.{◌≡◌, refl}
use mathlib.Core.Bool.{Bool, true, false, ◌&&◌, ◌||◌, cond, and-eq-true_iff}
use mathlib.Core.List.{List, [], ◌∷◌}
use mathlib.Core.Option.{Option, none, some, none-ne-some, some-injective}
use native.Mathlib.Omega.{arith}
use lib.Dec.{leb, ltb}
use borrow.Author.Tests.{leb-true, leb-false, ltb-true}
use Rattle.format.specs.Utf8.{within, trail, forms, due}
use Rattle.utf8.proofs.Step.{inside, under, beyond}

-- what is due after each byte from `lo` to `hi`, where no form has some of them as its first and not all
unfoldable pub due_from : ℕ → ℕ → List ((ℕ × ℕ) × List (ℕ × ℕ)) → Option (List (ℕ × ℕ))
due_from lo hi [] = some ((1, 0) ∷ [])
due_from lo hi (f ∷ fs) =
    cond (ltb f.0.1 lo || ltb hi f.0.0) (due_from lo hi fs)
    (cond (leb f.0.0 lo && leb hi f.0.1) (some f.1) none)

module _ (lo hi b : ℕ) (l : lo ≤ b) (u : b ≤ hi) where
  outside : (r : ℕ × ℕ) → ltb r.1 lo || ltb hi r.0 ≡ true → within r b ≡ false
  outside r h = go (ltb r.1 lo) refl h
    where
      go : (t : Bool) → ltb r.1 lo ≡ t → t || ltb hi r.0 ≡ true → within r b ≡ false
      go true e h = beyond r.0 r.1 b (omega (arith, ltb-true r.1 lo e))
      go false e h = under r.0 r.1 b (omega (arith, ltb-true hi r.0 h))

  pub due-from : (fs : List ((ℕ × ℕ) × List (ℕ × ℕ))) (rs : List (ℕ × ℕ)) → due_from lo hi fs ≡ some rs → due b fs ≡ rs
  unfolding due_from due
  due-from [] rs e = some-injective _ _ e
  due-from (f ∷ fs) rs e = go (ltb f.0.1 lo || ltb hi f.0.0) refl (leb f.0.0 lo && leb hi f.0.1) refl (due-from fs rs) e
    where
      go : (t : Bool) → ltb f.0.1 lo || ltb hi f.0.0 ≡ t → (s : Bool) → leb f.0.0 lo && leb hi f.0.1 ≡ s
          → (due_from lo hi fs ≡ some rs → due b fs ≡ rs) → cond t (due_from lo hi fs) (cond s (some f.1) none) ≡ some rs → cond (within f.0 b) f.1 (due b fs) ≡ rs
      go true h s k ih e = rw (outside f.0 h) (ih e)
      go false h true k ih e =
          let x = (and-eq-true_iff (leb f.0.0 lo) (leb hi f.0.1)).0 k in
          rw (inside f.0.0 f.0.1 b (omega (arith, leb-true f.0.0 lo x.0)) (omega (arith, leb-true hi f.0.1 x.1))) (some-injective _ _ e)
      go false h false k ih e = absurd (none-ne-some _ e)

-- two of the forms are alike
pub due-three : (b : ℕ) → 225 ≤ b → (b ≡ 237 → ⊥) → b ≤ 239 → due b forms ≡ (128, 191) ∷ (128, 191) ∷ []
unfolding due_from forms trail
due-three b l n u = go (leb b 236) refl
  where
    go : (t : Bool) → leb b 236 ≡ t → due b forms ≡ (128, 191) ∷ (128, 191) ∷ []
    go true e = due-from 225 236 b l (leb-true b 236 e) forms _ refl
    go false e = due-from 238 239 b (omega (arith, n, leb-false b 236 e)) u forms _ refl

-- none starts above them
pub due-high : (b : ℕ) → 245 ≤ b → due b forms ≡ (1, 0) ∷ []
unfolding due_from forms
due-high b l = due-from 245 b b l (omega arith) forms _ refl
