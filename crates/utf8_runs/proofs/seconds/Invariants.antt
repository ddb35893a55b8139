use Prim.Native.Nat.{◌+◌, ◌≤◌}
use Rattle.utf8_runs.proofs.seconds.Given as goal

abbrev pub invariant-loop-second : goal.invariant-loop-second
invariant-loop-second l = l.run ≤ l.second + 1
