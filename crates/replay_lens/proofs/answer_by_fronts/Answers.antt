-- `replay_lens::answer_by_fronts` is safe and ends: each front is longer than the one before it.
use Prim.Native.Nat.{ℕ, ◌<◌}
use mathlib.Core.Path.{sym}
use mathlib.Core.Bool.{Bool, true, false, cond}
use native.Mathlib.Omega.{arith}
use lib.ListN.{length}
use lib.Seq.{length-take-le}
use lib.Dec.{ltb}
use Rattle.replay_cases.specs.Cases.{smaller}
use Rattle.replay_lens.proofs.answer_by_fronts.Goals as goal

-- the smaller of two is above what both are above
smaller-above : (a b n : ℕ) → n < a → n < b → n < smaller a b
unfolding smaller
smaller-above a b n h k = go (ltb a b)
  where
    go : (t : Bool) → n < cond t a b
    go true = h
    go false = k

pub slice_bounds-binary_len_from-end : goal.slice_bounds-binary_len_from-end
slice_bounds-binary_len_from-end c = sym (length-take-le _ _ c.loop-lent.invariant)

pub loop-lent-smaller : goal.loop-lent-smaller
loop-lent-smaller c =
    let s = c.args.bytes.now in
    let h = smaller-above c.in-More.n (length s) c.loop-lent.lent (omega arith) (omega arith) in
    omega (arith, h, c.least-lent.ensures.2)
