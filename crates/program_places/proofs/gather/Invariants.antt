use Prim.Native.Nat.{◌-◌}
use lib.ListN.{length}
use Rattle.program_places.proofs.Noting.{Listed}
use Rattle.program_places.proofs.gather.Given as goal

abbrev pub invariant-loop-e : goal.invariant-loop-e
invariant-loop-e l = Listed l.catalogue l.ats l.lens l.from l.widths l.count l.at

abbrev pub decreases-loop-e : goal.decreases-loop-e
decreases-loop-e l = length l.catalogue - l.at
