use Prim.Native.Nat.{◌-◌}
use mathlib.Core.Path.{◌≡◌}
use lib.ListN.{length}
use Rattle.binary_references.specs.Next.{sq_from}
use Rattle.merge_references.specs.Joining.{From}
use Rattle.merge_hints.specs.Hints.{Placed, Marked}
use Rattle.merge_hints.proofs.mark_all.Given as goal

abbrev pub invariant-loop-r : goal.invariant-loop-r
invariant-loop-r l =
    From l.strict_a l.a l.at × Placed l.b l.area × Marked l.strict_b l.b (sq_from l.strict_a l.a 0) l.area × (length l.area ≡ length l.initial.area)

abbrev pub decreases-loop-r : goal.decreases-loop-r
decreases-loop-r l = length l.a - l.at
