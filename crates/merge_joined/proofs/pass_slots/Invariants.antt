use Prim.Native.Nat.{◌*◌, ◌/◌, ◌<◌}
use mathlib.Core.Path.{◌≡◌}
use mathlib.Core.Bool.{true}
use lib.ListN.{length}
use Rattle.binary_references.specs.Next.{sq_from}
use Rattle.merge_joined.specs.Passing.{Passed}
use Rattle.merge_joined.proofs.pass_slots.Given as goal

abbrev pub invariant-loop-left : goal.invariant-loop-left
invariant-loop-left l =
    Passed (sq_from l.of.a l.a 0) l.of.b l.b l.of.merged l.m l.initial.left l.left × (l.room < length l.area / 4 * 3 → l.left.more ≡ true → l.initial.left.at < l.left.at)

abbrev pub decreases-loop-left : goal.decreases-loop-left
decreases-loop-left l = l.room
