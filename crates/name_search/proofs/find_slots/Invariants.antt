use Prim.Native.Nat.{◌+◌, ◌-◌, ◌≤◌}
use lib.ListN.{length}
use Rattle.name_lookup.specs.Looking.{slot_of, looks_of}
use Rattle.name_search.proofs.Asking.{Asking}
use Rattle.name_search.proofs.find_slots.Given as goal

abbrev pub invariant-loop-at : goal.invariant-loop-at
invariant-loop-at l =
    (l.at ≤ length l.list + 1) × Asking (slot_of l.text l.slots) (looks_of l.text l.slots) l.list l.initial.out l.out l.at l.j l.looks

abbrev pub decreases-loop-at : goal.decreases-loop-at
decreases-loop-at l = length l.list + 1 - l.at
