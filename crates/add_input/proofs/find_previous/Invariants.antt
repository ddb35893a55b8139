use Prim.Native.Nat.{◌-◌}
use lib.ListN.{length}
use Rattle.add_input.proofs.Last.{Seeking}
use Rattle.add_input.proofs.find_previous.Given as goal

abbrev pub invariant-loop-pos : goal.invariant-loop-pos
invariant-loop-pos l = Seeking l.fields l.last l.pos

abbrev pub decreases-loop-pos : goal.decreases-loop-pos
decreases-loop-pos l = length l.fields - l.pos
