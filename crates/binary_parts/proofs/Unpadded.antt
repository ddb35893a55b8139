-- A text without the zero bytes at its end, from its end on.
use Prim.Native.Nat.{ℕ, suc, ◌-◌, ◌≤◌, ◌<◌}
use mathlib.Core.Path.{◌≡◌, refl, sym, ap, ◌∙◌}
use mathlib.Core.Bool.{Bool, true, false, ◌&&◌, cond}
use mathlib.Core.List.{List, [], ◌∷◌, ◌++◌}
use native.Mathlib.Omega.{arith}
use lib.ListN.{length, take, get_or}
use lib.Seq.{take-suc}
use lib.Dec.{eqb}
use borrow.Author.Tests.{ne_eqb}
use Rattle.format.specs.Bytes.{all}
use Rattle.format.specs.Binary.{unpadded}

all-zero : (s : List ℕ) → all (eqb 0) (s ++ (0 ∷ [])) ≡ all (eqb 0) s
unfolding all
all-zero [] = refl
all-zero (b ∷ s) = ap (λ t. eqb 0 b && t) (all-zero s)

all-other : (s : List ℕ) (b : ℕ) → (0 ≡ b → ⊥) → all (eqb 0) (s ++ (b ∷ [])) ≡ false
unfolding all
all-other [] b h = rw (ne_eqb 0 b h) refl
all-other (c ∷ s) b h = ap (λ t. eqb 0 c && t) (all-other s b h) ∙ go (eqb 0 c)
  where
    go : (t : Bool) → (t && false) ≡ false
    go true = refl
    go false = refl

zero-dropped : (s : List ℕ) → unpadded (s ++ (0 ∷ [])) ≡ unpadded s
unfolding unpadded all
zero-dropped [] = refl
zero-dropped (b ∷ s) = rw (all-zero s, zero-dropped s) refl

other-kept : (s : List ℕ) (b : ℕ) → (0 ≡ b → ⊥) → unpadded (s ++ (b ∷ [])) ≡ s ++ (b ∷ [])
unfolding unpadded all
other-kept [] b h = rw (ne_eqb 0 b h) refl
other-kept (c ∷ s) b h = rw (all-other s b h, other-kept s b h) (go (eqb 0 c))
  where
    go : (t : Bool) → cond (t && false) [] (c ∷ s ++ (b ∷ [])) ≡ c ∷ s ++ (b ∷ [])
    go true = refl
    go false = refl

-- ---- the bytes from the front up to `n`

module _ (s : List ℕ) (n : ℕ) (h : 0 < n) (k : n ≤ length s) where
  front : take n s ≡ take (n - 1) s ++ (get_or s (n - 1) 0 ∷ [])
  front =
      let z : n ≡ suc (n - 1) = omega arith in
      ap (λ m. take m s) z ∙ take-suc s (n - 1) 0 (omega arith)

  pub unpadded-on : get_or s (n - 1) 0 ≡ 0 → unpadded (take n s) ≡ unpadded (take (n - 1) s)
  unpadded-on e = ap unpadded (front ∙ ap (λ b. take (n - 1) s ++ (b ∷ [])) e) ∙ zero-dropped (take (n - 1) s)

  pub unpadded-at : (get_or s (n - 1) 0 ≡ 0 → ⊥) → unpadded (take n s) ≡ take n s
  unpadded-at e = ap unpadded front ∙ other-kept (take (n - 1) s) (get_or s (n - 1) 0) (λ z. e (sym z)) ∙ sym front

pub unpadded-within : (s : List ℕ) → length (unpadded s) ≤ length s
unfolding unpadded
unpadded-within [] = omega arith
unpadded-within (b ∷ s) = go (all (eqb 0) (b ∷ s)) (unpadded-within s)
  where
    go : (t : Bool) → length (unpadded s) ≤ length s → length (cond t [] (b ∷ unpadded s)) ≤ suc (length s)
    go true h = omega arith
    go false h = omega arith

pub unpadded-is : (s : List ℕ) → unpadded s ≡ take (length (unpadded s)) s
unfolding unpadded
unpadded-is [] = refl
unpadded-is (b ∷ s) = go (all (eqb 0) (b ∷ s)) (unpadded-is s)
  where
    go : (t : Bool) → unpadded s ≡ take (length (unpadded s)) s → cond t [] (b ∷ unpadded s) ≡ take (length (cond t [] (b ∷ unpadded s))) (b ∷ s)
    go true h = refl
    go false h = ap {B = List ℕ} (λ r. b ∷ r) h
