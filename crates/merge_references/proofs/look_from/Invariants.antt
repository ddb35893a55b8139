use Prim.Native.Nat.{◌-◌}
use mathlib.Core.Path.{◌≡◌}
use lib.ListN.{length}
use Rattle.binary_references.specs.Next.{sq_from, told_reference}
use Rattle.merge_references.specs.Joining.{met_in, From}
use Rattle.merge_references.proofs.look_from.Given as goal

abbrev pub invariant-loop-r : goal.invariant-loop-r
invariant-loop-r l = From l.strict l.a l.at × (met_in (told_reference l.b l.q) (sq_from l.strict l.a l.start) ≡ met_in (told_reference l.b l.q) (sq_from l.strict l.a l.at))

abbrev pub decreases-loop-r : goal.decreases-loop-r
decreases-loop-r l = length l.a - l.at
