use Prim.Native.Nat.{◌-◌, ◌≤◌}
use mathlib.Core.Path.{◌≡◌}
use mathlib.Core.List.{List, ◌++◌}
use lib.ListN.{length}
use Rattle.format.specs.References.{Reference, same_references}
use Rattle.binary_references.specs.Next.{sq_from}
use Rattle.merge_references.proofs.pass_front.Given as goal

abbrev pub invariant-loop-r : goal.invariant-loop-r
invariant-loop-r l =
    (l.at ≤ length l.a)
    × (l.next ≤ length l.m)
    × ((rs : List Reference) → same_references (sq_from l.strict_m l.m 0) (sq_from l.strict_a l.a 0 ++ rs) ≡ same_references (sq_from l.strict_m l.m l.next) (sq_from l.strict_a l.a l.at ++ rs))

abbrev pub decreases-loop-r : goal.decreases-loop-r
decreases-loop-r l = length l.a - l.at
