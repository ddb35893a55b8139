use Prim.Native.Nat.{◌-◌, ◌≤◌}
use mathlib.Core.Path.{◌≡◌}
use lib.ListN.{length}
use Rattle.name_entries.specs.Next.{next_sq}
use Rattle.name_entries.proofs.next_sq.Given as goal

abbrev pub invariant-loop-e : goal.invariant-loop-e
invariant-loop-e l = (l.at ≤ length l.catalogue) × (next_sq l.catalogue l.start ≡ next_sq l.catalogue l.at)

abbrev pub decreases-loop-e : goal.decreases-loop-e
decreases-loop-e l = length l.catalogue - l.at
