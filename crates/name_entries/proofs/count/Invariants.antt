use Prim.Native.Nat.{◌+◌, ◌-◌, ◌≤◌}
use mathlib.Core.Path.{◌≡◌}
use lib.ListN.{length, drop}
use Rattle.catalogue_entries.specs.Entries.{entries_in, counted}
use Rattle.name_entries.proofs.count.Given as goal

abbrev pub invariant-loop-at : goal.invariant-loop-at
invariant-loop-at l = (l.n ≤ l.at) × (l.at ≤ length l.catalogue) × (counted 2 (entries_in l.catalogue) ≡ l.n + counted 2 (entries_in (drop l.at l.catalogue)))

abbrev pub decreases-loop-at : goal.decreases-loop-at
decreases-loop-at l = length l.catalogue - l.at
