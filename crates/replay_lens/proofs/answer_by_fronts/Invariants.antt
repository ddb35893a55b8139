use Prim.Native.Nat.{◌-◌, ◌≤◌}
use lib.ListN.{length}
use Rattle.replay_lens.proofs.answer_by_fronts.Given as goal

abbrev pub invariant-loop-lent : goal.invariant-loop-lent
invariant-loop-lent l = l.lent ≤ length l.bytes

abbrev pub decreases-loop-lent : goal.decreases-loop-lent
decreases-loop-lent l = length l.bytes - l.lent
