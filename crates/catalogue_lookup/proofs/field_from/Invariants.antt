use Prim.Native.Nat.{◌-◌}
use mathlib.Core.Path.{◌≡◌}
use lib.ListN.{length, drop}
use Rattle.catalogue_entries.specs.Entries.{entries_in}
use Rattle.catalogue_lookup.specs.Lookup.{value_in}
use Rattle.catalogue_lookup.proofs.field_from.Given as goal

abbrev pub invariant-loop-x : goal.invariant-loop-x
invariant-loop-x l = value_in l.a l.b (entries_in (drop l.from l.catalogue)) ≡ value_in l.a l.b (entries_in (drop l.at l.catalogue))

abbrev pub decreases-loop-x : goal.decreases-loop-x
decreases-loop-x l = length l.catalogue - l.at
