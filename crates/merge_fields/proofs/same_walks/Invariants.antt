use Prim.Native.Nat.{◌-◌}
use mathlib.Core.Path.{◌≡◌}
use lib.ListN.{length}
use Rattle.format.specs.Bytes.{none?}
use Rattle.accepted_line.specs.Run.{AtField}
use Rattle.format.specs.Merge.{keeps_fields}
use Rattle.merge_fields.specs.Kept.{kept_from}
use Rattle.merge_fields.proofs.same_walks.Given as goal

abbrev pub invariant-loop-f : goal.invariant-loop-f
invariant-loop-f l =
    AtField (none? l.tables_a) l.at_a l.a l.i
    × AtField (none? l.tables_b) l.at_b l.b l.j
    × (keeps_fields (kept_from l.at_a l.a 3) (kept_from l.at_b l.b 3) ≡ keeps_fields (kept_from l.at_a l.a l.i) (kept_from l.at_b l.b l.j))

abbrev pub decreases-loop-f : goal.decreases-loop-f
decreases-loop-f l = length l.a - l.i
