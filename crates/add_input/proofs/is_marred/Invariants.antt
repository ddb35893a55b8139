use Prim.Native.Nat.{◌-◌}
use lib.ListN.{length}
use Rattle.add_input.proofs.Judged.{Going}
use Rattle.add_input.proofs.is_marred.Given as goal

abbrev pub invariant-loop-pos : goal.invariant-loop-pos
invariant-loop-pos l = Going l.fields l.pos

abbrev pub decreases-loop-pos : goal.decreases-loop-pos
decreases-loop-pos l = length l.fields - l.pos
