use Prim.Native.Nat.{◌+◌, ◌-◌}
use mathlib.Core.Bool.{cond}
use lib.ListN.{length}
use Rattle.binary_references.specs.Next.{sq_from}
use Rattle.merge_references.specs.Joining.{From}
use Rattle.merge_joined.specs.Passing.{Passed}
use Rattle.merge_joined.proofs.pass_ordered.Given as goal

abbrev pub invariant-loop-left : goal.invariant-loop-left
invariant-loop-left l =
    Passed (sq_from l.of.a l.a 0) l.of.b l.b l.of.merged l.m l.initial.left l.left × From l.of.a l.a l.cursor

abbrev pub decreases-loop-left : goal.decreases-loop-left
decreases-loop-left l = cond l.left.more 1 0 + (length l.b - l.left.at)
