use Prim.Native.Nat.{◌-◌}
use lib.ListN.{length}
use Rattle.record_parser.proofs.Walked.{Walked}
use Rattle.record_parser.proofs.fields.walk_fields.Given as goal

abbrev pub invariant-loop-pos : goal.invariant-loop-pos
invariant-loop-pos l = Walked l.kind l.src l.at l.strict l.exact l.seen l.keys l.pos

abbrev pub decreases-loop-pos : goal.decreases-loop-pos
decreases-loop-pos l = length l.src - l.pos
