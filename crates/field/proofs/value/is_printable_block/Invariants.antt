use Prim.Native.Nat.{◌-◌, ◌≤◌}
use mathlib.Core.Path.{◌≡◌}
use lib.ListN.{drop}
use lib.Dec.{leb}
use Rattle.format.specs.Bytes.{printable}
use Rattle.byte_slices.specs.Run.{run}
use Rattle.field.proofs.value.is_printable_block.Given as goal

abbrev pub invariant-loop-i : goal.invariant-loop-i
invariant-loop-i l = (l.i ≤ 8) × (l.fine ≡ leb l.i (run printable (drop l.at l.s)))

abbrev pub decreases-loop-i : goal.decreases-loop-i
decreases-loop-i l = 8 - l.i
