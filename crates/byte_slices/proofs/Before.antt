-- The laws of `upto` and `before`: the piece in front of a byte does not hold it, and the byte comes after it.
use Prim.Native.Nat.{ℕ, zero, suc, ◌-◌, ◌≤◌, ◌<◌}
use mathlib.Core.Path.{◌≡◌, refl, sym, ap, ◌∙◌}
use mathlib.Core.Bool.{Bool, true, false, cond}
use mathlib.Core.Logic.{◌⊎◌, inl, inr}
use mathlib.Core.List.{List, [], ◌∷◌}
use native.Mathlib.Omega.{arith}
use lib.ListN.{length, take, drop, get_or, length-drop}
use lib.Seq.{length-take-le, take_all}
use lib.Dec.{eqb, ltb}
use borrow.Author.Tests.{eqb-true, ltb-true, ltb-false}
use Rattle.byte_slices.specs.Upto.{upto, before}
use Rattle.byte_slices.proofs.Lines.{upto_le}

-- a `d` in reach, or none
pub upto-cases : (d : ℕ) (s : List ℕ) → (upto d s < length s) ⊎ (upto d s ≡ length s)
upto-cases d s = go (ltb (upto d s) (length s)) refl
  where
    go : (t : Bool) → ltb (upto d s) (length s) ≡ t → (upto d s < length s) ⊎ (upto d s ≡ length s)
    go true q = inl (ltb-true (upto d s) (length s) q)
    go false q = inr (omega (arith, upto_le d s, ltb-false (upto d s) (length s) q))

-- the byte itself
pub upto-at : (d : ℕ) (s : List ℕ) → upto d s < length s → get_or s (upto d s) 0 ≡ d
unfolding upto
upto-at d [] h = absurd (omega arith)
upto-at d (b ∷ s) h = go (eqb b d) refl (upto-at d s) h
  where
    go : (t : Bool) → eqb b d ≡ t → (upto d s < length s → get_or s (upto d s) 0 ≡ d)
        → cond t 0 (suc (upto d s)) < suc (length s) → get_or (b ∷ s) (cond t 0 (suc (upto d s))) 0 ≡ d
    go true e ih k = eqb-true b d e
    go false e ih k = ih (omega arith)

-- a front that ends before the byte does not hold it
pub upto_take : (d : ℕ) (s : List ℕ) (n : ℕ) → n ≤ upto d s → upto d (take n s) ≡ n
unfolding upto
upto_take d s zero h = refl
upto_take d [] (suc n) h = absurd (omega arith)
upto_take d (b ∷ s) (suc n) h = go (eqb b d) (upto_take d s n) h
  where
    go : (t : Bool) → (n ≤ upto d s → upto d (take n s) ≡ n) → suc n ≤ cond t 0 (suc (upto d s)) → cond t 0 (suc (upto d (take n s))) ≡ suc n
    go true ih k = absurd (omega arith)
    go false ih k = ap suc (ih (omega arith))

-- the piece in front of the next `d`, one byte at a time
pub before-stop : (d b : ℕ) (s : List ℕ) → eqb b d ≡ true → before d (b ∷ s) ≡ []
unfolding before
before-stop d b s e = rw e

pub before-pass : (d b : ℕ) (s : List ℕ) → eqb b d ≡ false → before d (b ∷ s) ≡ b ∷ before d s
unfolding before
before-pass d b s e = rw e

pub before-length : (d : ℕ) (s : List ℕ) → length (before d s) ≡ upto d s
unfolding before
before-length d s = length-take-le (upto d s) s (upto_le d s)

pub before-free : (d : ℕ) (s : List ℕ) → upto d (before d s) ≡ length (before d s)
unfolding before
before-free d s = upto_take d s (upto d s) (omega arith) ∙ sym (length-take-le (upto d s) s (upto_le d s))

-- the rest of a slice from `k` on, as a callee that is lent it sees it
pub rest : (k : ℕ) (s : List ℕ) → take (length s - k) (drop k s) ≡ drop k s
rest k s = take_all (length s - k) (drop k s) (omega (arith, length-drop k s))
