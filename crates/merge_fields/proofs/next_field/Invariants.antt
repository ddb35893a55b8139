use Prim.Native.Nat.{◌-◌, ◌≤◌}
use mathlib.Core.Path.{◌≡◌}
use lib.ListN.{length}
use Rattle.format.specs.Bytes.{none?}
use Rattle.accepted_line.specs.Run.{AtField}
use Rattle.merge_fields.specs.Kept.{kept_from}
use Rattle.merge_fields.proofs.next_field.Given as goal

abbrev pub invariant-loop-i : goal.invariant-loop-i
invariant-loop-i l = AtField (none? l.tables) l.at l.line l.i × (l.start ≤ l.i) × (kept_from l.at l.line l.start ≡ kept_from l.at l.line l.i)

abbrev pub decreases-loop-i : goal.decreases-loop-i
decreases-loop-i l = length l.line - l.i
