use Prim.Native.Nat.{◌-◌, ◌≤◌}
use mathlib.Core.Path.{◌≡◌}
use lib.ListN.{length}
use Rattle.binary_references.specs.Next.{sq_from, next_from}
use Rattle.binary_references.proofs.next_reference.Given as goal

abbrev pub invariant-loop-at : goal.invariant-loop-at
invariant-loop-at l = (l.start ≤ l.at) × (l.at ≤ length l.text) × (sq_from l.strict l.text l.start ≡ sq_from l.strict l.text l.at) × (next_from l.strict l.text l.start ≡ next_from l.strict l.text l.at)

abbrev pub decreases-loop-at : goal.decreases-loop-at
decreases-loop-at l = length l.text - l.at
