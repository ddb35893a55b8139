use Prim.Native.Nat.{◌+◌, ◌-◌, ◌*◌, ◌≤◌}
use lib.ListN.{length}
use Rattle.read_judge.proofs.Once.{Once}
use Rattle.read_judge.proofs.Blocks.{Blocking}
use Rattle.read_judge.proofs.Judging.{Judging}
use Rattle.read_judge.proofs.judge_along.Given as goal

abbrev pub invariant-loop-at : goal.invariant-loop-at
invariant-loop-at l =
    (j : Judging l.way.strict l.text l.at l.line l.programs l.size) × Blocking l.way.seed l.way.strict l.text l.initial.area l.area l.block l.at l.line l.programs l.size j × Once l.text l.once l.at l.line j.before × (l.slots ≤ 65536 + 16 * l.line)

abbrev pub decreases-loop-at : goal.decreases-loop-at
decreases-loop-at l = length l.text - l.at
