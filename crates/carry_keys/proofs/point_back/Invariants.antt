use Prim.Native.Nat.{◌+◌, ◌-◌, ◌*◌, ◌≤◌}
use mathlib.Core.Path.{◌≡◌}
use lib.ListN.{length, drop}
use Rattle.format.specs.Lines.{lines_from}
use Rattle.carry_keys.specs.Blocks.{earlier, pointed_back}
use Rattle.carry_keys.proofs.point_back.Given as goal

abbrev pub invariant-loop-at : goal.invariant-loop-at
invariant-loop-at l =
    (length l.area ≡ length l.initial.area) × (pointed_back l.seed l.strict l.text l.initial.area (earlier l.to (lines_from l.from (drop l.from l.text))) ≡ pointed_back l.seed l.strict l.text l.area (earlier l.to (lines_from l.at (drop l.at l.text))))
    × (l.looks.lines ≤ l.at) × (l.looks.slots ≤ 65536 + 16 * l.looks.lines)

abbrev pub decreases-loop-at : goal.decreases-loop-at
decreases-loop-at l = length l.text - l.at
