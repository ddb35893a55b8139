use Prim.Native.Nat.{◌-◌}
use lib.ListN.{length}
use Rattle.references.proofs.Rows.{Left}
use Rattle.references.proofs.put_rows.Given as goal

abbrev pub invariant-loop-name : goal.invariant-loop-name
invariant-loop-name l = Left l.catalogue l.initial.table l.at l.end l.table

abbrev pub decreases-loop-name : goal.decreases-loop-name
decreases-loop-name l = length l.catalogue - l.at
