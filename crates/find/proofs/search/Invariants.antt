use Prim.Native.Nat.{◌-◌}
use lib.ListN.{length}
use Rattle.find.proofs.Front.{Front}
use Rattle.find.proofs.SearchSteps.{Ahead}
use Rattle.find.proofs.search.Given as goal

abbrev pub invariant-search : goal.invariant-search
invariant-search l = Ahead l.text l.catalogue l.kind l.key l.at l.ordinal

abbrev pub decreases-search : goal.decreases-search
decreases-search l = length l.catalogue - l.at

abbrev pub invariant-loop-i : goal.invariant-loop-i
invariant-loop-i l = Front l.text l.key l.start l.i

abbrev pub decreases-loop-i : goal.decreases-loop-i
decreases-loop-i l = l.i
