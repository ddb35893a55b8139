use Prim.Native.Nat.{◌-◌, ◌≤◌}
use mathlib.Core.Path.{◌≡◌}
use lib.ListN.{length, drop}
use lib.Seq.{sets}
use Rattle.catalogue_entries.specs.Entries.{entries_in}
use Rattle.name_slots.specs.Filled.{entering, seats}
use Rattle.name_slots.proofs.put_names.Given as goal

abbrev pub invariant-loop-p : goal.invariant-loop-p
invariant-loop-p l =
    (l.at ≤ length l.catalogue) × (l.k ≤ l.at) × (length l.slots ≡ length l.initial.slots) × (length l.notes ≡ length l.initial.notes)
    × (entering l.ordinals l.text 0 (entries_in l.catalogue) l.initial.slots ≡ entering l.ordinals l.text l.k (entries_in (drop l.at l.catalogue)) l.slots)
    × (sets l.initial.notes 0 (seats l.ordinals l.text 0 (entries_in l.catalogue) l.initial.slots) ≡ sets l.notes l.k (seats l.ordinals l.text l.k (entries_in (drop l.at l.catalogue)) l.slots))

abbrev pub decreases-loop-p : goal.decreases-loop-p
decreases-loop-p l = length l.catalogue - l.at
