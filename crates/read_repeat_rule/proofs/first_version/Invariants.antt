use Prim.Native.Nat.{◌-◌, ◌≤◌}
use mathlib.Core.Path.{◌≡◌}
use lib.ListN.{length, drop}
use Rattle.format.specs.Lines.{cut}
use Rattle.format.specs.Reading.{first_version}
use Rattle.read_repeat_rule.proofs.first_version.Given as goal

abbrev pub invariant-loop-from : goal.invariant-loop-from
invariant-loop-from l =
    (l.at ≤ length l.src) × (l.from ≡ length l.src) × (l.stop ≡ length l.src) × (first_version (cut 9 l.src) ≡ first_version (cut 9 (drop l.at l.src)))

abbrev pub decreases-loop-from : goal.decreases-loop-from
decreases-loop-from l = length l.src - l.at
