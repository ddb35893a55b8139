use Prim.Native.Nat.{◌+◌, ◌-◌, ◌*◌, ◌≤◌}
use mathlib.Core.Path.{◌≡◌}
use lib.ListN.{length, drop}
use Rattle.format.specs.Lines.{lines_from}
use Rattle.read_judge.specs.Blocks.{clash_of}
use Rattle.read_judge.proofs.first_met.Given as goal

abbrev pub invariant-loop-at : goal.invariant-loop-at
invariant-loop-at l =
    (l.line ≤ l.at) × (l.at ≤ length l.text) × (l.area ≡ l.initial.area) × (clash_of l.way.seed l.way.strict l.text l.initial.area l.clash l.first (lines_from l.from (drop l.from l.text)) ≡ clash_of l.way.seed l.way.strict l.text l.initial.area l.clash l.line (lines_from l.at (drop l.at l.text))) × (l.first ≤ l.line) × (l.slots ≤ 65536 + 16 * (l.line - l.first))

abbrev pub decreases-loop-at : goal.decreases-loop-at
decreases-loop-at l = length l.text - l.at
