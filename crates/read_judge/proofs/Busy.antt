-- What is known where judging goes on, and where it is given up.
use Prim.Native.Nat.{ℕ}
use mathlib.Core.Path.{◌≡◌, refl, sym, ap, ◌∙◌}
use mathlib.Core.Bool.{Bool, true, false, cond, false≢true}
use lib.Dec.{eqb}
use borrow.Author.Tests.{eq-eqb}
use Rattle.key_index.specs.Counting.{too_many}
use Rattle.read_judge.specs.Busy.{kept_busy}

-- it goes on
pub calm-many : (k : Bool) (clash n s : ℕ) → kept_busy k clash n s ≡ false → too_many k n s ≡ false
unfolding kept_busy
calm-many true clash n s e = unfold too_many in refl
calm-many false clash n s e = go (eqb clash 16777218) (too_many false n s) e
  where
    go : (b m : Bool) → cond b true m ≡ false → m ≡ false
    go true m e = absurd (false≢true (sym e))
    go false m e = e

pub calm-known : (k : Bool) (clash n s : ℕ) → kept_busy k clash n s ≡ false → k ≡ false → clash ≡ 16777218 → ⊥
unfolding kept_busy
calm-known true clash n s e q c = false≢true (sym q)
calm-known false clash n s e q c = false≢true (sym (sym (ap (λ b. cond b true (too_many false n s)) (eq-eqb clash 16777218 c)) ∙ e))

-- it is given up
pub busy-keyless : (k : Bool) (clash n s : ℕ) → kept_busy k clash n s ≡ true → k ≡ false
unfolding kept_busy
busy-keyless true clash n s e = absurd (false≢true e)
busy-keyless false clash n s e = refl
