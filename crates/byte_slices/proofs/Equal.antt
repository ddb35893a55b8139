-- The laws of `same`, which is equality, and of `starts`; and that std's comparisons of slices are these.
use Prim.Native.Nat.{ℕ, ◌<◌}
use mathlib.Core.Path.{◌≡◌, refl, ap}
use mathlib.Core.Bool.{Bool, true, false, ◌&&◌}
use mathlib.Core.List.{List, [], ◌∷◌}
use native.Mathlib.Omega.{arith}
use lib.ListN.{length, take}
use lib.Pointwise.{pointwise}
use lib.Dec.{eqb}
use borrow.Author.Tests.{eqb-true, eq-eqb}
use Rattle.format.specs.Bytes.{same, starts}

pub same-equal : (s t : List ℕ) → same s t ≡ true → s ≡ t
unfolding same
same-equal [] [] e = refl
same-equal [] (b ∷ t) e = absurd (let z : ◌≡◌ {A = ℕ} 0 1 = cc in omega arith)
same-equal (a ∷ s) [] e = absurd (let z : ◌≡◌ {A = ℕ} 0 1 = cc in omega arith)
same-equal (a ∷ s) (b ∷ t) e = go (eqb a b) refl (same-equal s t) e
  where
    go : (x : Bool) → eqb a b ≡ x → (same s t ≡ true → s ≡ t) → (x && same s t) ≡ true → a ∷ s ≡ b ∷ t
    go true q ih k = let h : a ≡ b = eqb-true a b q in let r : s ≡ t = ih k in cc
    go false q ih k = absurd (let z : ◌≡◌ {A = ℕ} 0 1 = cc in omega arith)

pub same_self : (s : List ℕ) → same s s ≡ true
unfolding same
same_self [] = refl
same_self (a ∷ s) = rw (eq-eqb a a refl) (same_self s)

pub same-other : (s t : List ℕ) → (s ≡ t → ⊥) → same s t ≡ false
same-other s t h = go (same s t) refl
  where
    go : (x : Bool) → same s t ≡ x → x ≡ false
    go true q = absurd (h (same-equal s t q))
    go false q = refl

-- a longer list is at the start of none
pub starts-short : (p s : List ℕ) → length s < length p → starts p s ≡ false
unfolding starts
starts-short [] s h = absurd (omega arith)
starts-short (a ∷ p) [] h = refl
starts-short (a ∷ p) (b ∷ s) h = go (eqb a b) (starts-short p s (omega arith))
  where
    go : (x : Bool) → starts p s ≡ false → (x && starts p s) ≡ false
    go true k = k
    go false k = refl

-- ---- what std answers

pub pointwise-same : (s t : List ℕ) → pointwise eqb s t ≡ same s t
unfolding same
pointwise-same [] [] = refl
pointwise-same [] (b ∷ t) = refl
pointwise-same (a ∷ s) [] = refl
pointwise-same (a ∷ s) (b ∷ t) = ap (λ r. eqb a b && r) (pointwise-same s t)

pub pointwise-starts : (p s : List ℕ) → pointwise eqb p (take (length p) s) ≡ starts p s
unfolding starts
pointwise-starts [] s = refl
pointwise-starts (a ∷ p) [] = refl
pointwise-starts (a ∷ p) (b ∷ s) = ap (λ r. eqb a b && r) (pointwise-starts p s)
