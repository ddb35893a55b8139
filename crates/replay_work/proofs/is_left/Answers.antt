-- `replay_work::is_left` is safe and ends.
use mathlib.Core.Path.{sym}
use native.Mathlib.Omega.{arith}
use lib.Seq.{length-take-le}
use Rattle.replay_work.proofs.is_left.Goals as goal

pub slice_bounds-is_cleared-end : goal.slice_bounds-is_cleared-end
slice_bounds-is_cleared-end c = sym (length-take-le _ _ (omega (arith, c.if-work-n.false)))
