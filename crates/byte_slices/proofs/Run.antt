-- The laws of `run`: a flag that is kept over the bytes of a block, and blocks that are passed whole.
use Prim.Native.Nat.{ℕ, zero, suc, ◌+◌, ◌≤◌, ◌<◌}
use mathlib.Core.Path.{◌≡◌, refl, sym, ap, ◌∙◌}
use mathlib.Core.Bool.{Bool, true, false, not, cond}
use mathlib.Core.List.{List, [], ◌∷◌}
use native.Mathlib.Omega.{arith}
use lib.ListN.{length, drop, get_or, length-drop}
use lib.Seq.{get_or-drop}
use lib.Dec.{eqb, leb}
use borrow.Author.Tests.{le-leb, lt-leb, leb-true, leb-false, eq-eqb, ne_eqb}
use Rattle.byte_slices.specs.Upto.{upto}
use Rattle.byte_slices.specs.Run.{run}

module _ (p : ℕ → Bool) where
  pub run-le : (s : List ℕ) → run p s ≤ length s
  unfolding run
  run-le [] = omega arith
  run-le (b ∷ s) = go (p b) (run-le s)
    where
      go : (t : Bool) → run p s ≤ length s → cond t (suc (run p s)) 0 ≤ suc (length s)
      go true h = omega arith
      go false h = omega arith

  -- from any place that it reaches, it goes on as before
  pub run_drop : (s : List ℕ) (n : ℕ) → n ≤ run p s → run p s ≡ n + run p (drop n s)
  unfolding run
  run_drop s zero h = omega arith
  run_drop [] (suc n) h = absurd (omega arith)
  run_drop (b ∷ s) (suc n) h = go (p b) h (run_drop s n)
    where
      go : (t : Bool) → suc n ≤ cond t (suc (run p s)) 0 → (n ≤ run p s → run p s ≡ n + run p (drop n s)) → cond t (suc (run p s)) 0 ≡ suc n + run p (drop n s)
      go true k ih = omega (arith, ih (omega arith))
      go false k ih = absurd (omega arith)

  -- a byte that passes, and one that does not
  pub run-pass : (s : List ℕ) (i : ℕ) → i < length s → p (get_or s i 0) ≡ true → i ≤ run p s → suc i ≤ run p s
  unfolding run
  run-pass [] i h e k = absurd (omega arith)
  run-pass (b ∷ s) zero h e k = rw e (omega arith)
  run-pass (b ∷ s) (suc i) h e k = go (p b) k (run-pass s i (omega arith) e)
    where
      go : (t : Bool) → suc i ≤ cond t (suc (run p s)) 0 → (i ≤ run p s → suc i ≤ run p s) → suc (suc i) ≤ cond t (suc (run p s)) 0
      go true k ih = omega (arith, ih (omega arith))
      go false k ih = absurd (omega arith)

  pub run-stop : (s : List ℕ) (i : ℕ) → i < length s → p (get_or s i 0) ≡ false → run p s ≤ i
  unfolding run
  run-stop [] i h e = absurd (omega arith)
  run-stop (b ∷ s) zero h e = rw e (omega arith)
  run-stop (b ∷ s) (suc i) h e = go (p b) (run-stop s i (omega arith) e)
    where
      go : (t : Bool) → run p s ≤ i → cond t (suc (run p s)) 0 ≤ suc i
      go true ih = omega arith
      go false ih = omega arith

  -- ---- a flag over the bytes from `at` on: whether the first `i` of them pass

  module _ (s : List ℕ) (at i : ℕ) (h : at + i < length s) where
    rest : i < length (drop at s)
    rest = omega (arith, length-drop at s)

    byte : get_or (drop at s) i 0 ≡ get_or s (at + i) 0
    byte = get_or-drop at s i 0

    pub flag-pass : p (get_or s (at + i) 0) ≡ true → leb i (run p (drop at s)) ≡ leb (i + 1) (run p (drop at s))
    flag-pass e = split (leb i (run p (drop at s)))
        (λ t. t ∙ sym (le-leb (i + 1) _ (omega (arith, run-pass (drop at s) i rest (ap p byte ∙ e) (leb-true i _ t)))))
        (λ f. f ∙ sym (lt-leb (i + 1) _ (omega (arith, leb-false i _ f))))
      where
        split : {C : Type 0} (t : Bool) → (t ≡ true → C) → (t ≡ false → C) → C
        split true a b = a refl
        split false a b = b refl

    pub flag-stop : p (get_or s (at + i) 0) ≡ false → leb (i + 1) (run p (drop at s)) ≡ false
    flag-stop e = lt-leb (i + 1) _ (omega (arith, run-stop (drop at s) i rest (ap p byte ∙ e)))

-- ---- up to a byte: as long as the bytes are others

pub upto-run : (d : ℕ) (s : List ℕ) → upto d s ≡ run (λ b. not (eqb b d)) s
unfolding upto run
upto-run d [] = refl
upto-run d (b ∷ s) = go (eqb b d) (upto-run d s)
  where
    go : (t : Bool) → upto d s ≡ run (λ b. not (eqb b d)) s → cond t 0 (suc (upto d s)) ≡ cond (not t) (suc (run (λ b. not (eqb b d)) s)) 0
    go true ih = refl
    go false ih = ap suc ih

-- from any place before the byte, the rest is still to pass
pub upto-onward : (d : ℕ) (s : List ℕ) (n : ℕ) → n ≤ upto d s → upto d s ≡ n + upto d (drop n s)
upto-onward d s n h = rw (upto-run d s, upto-run d (drop n s)) (run_drop (λ b. not (eqb b d)) s n (omega (arith, upto-run d s)))

module _ (d : ℕ) (s : List ℕ) (at i : ℕ) (h : at + i < length s) where
  pub free-pass : (get_or s (at + i) 0 ≡ d → ⊥) → leb i (upto d (drop at s)) ≡ leb (i + 1) (upto d (drop at s))
  free-pass n = rw (upto-run d (drop at s)) (flag-pass (λ b. not (eqb b d)) s at i h (ap not (ne_eqb _ _ n)))

  pub free-stop : get_or s (at + i) 0 ≡ d → leb (i + 1) (upto d (drop at s)) ≡ false
  free-stop e = rw (upto-run d (drop at s)) (flag-stop (λ b. not (eqb b d)) s at i h (ap not (eq-eqb _ _ e)))
