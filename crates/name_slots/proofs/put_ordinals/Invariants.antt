use mathlib.Core.Path.{◌≡◌}
use lib.ListN.{length, drop}
use Rattle.name_slots.specs.Filled.{with_ordinals}
use Rattle.name_slots.proofs.put_ordinals.Given as goal

abbrev pub invariant-loop-k : goal.invariant-loop-k
invariant-loop-k l = (length l.slots ≡ length l.initial.slots) × (with_ordinals 0 l.notes l.initial.slots ≡ with_ordinals l.k (drop l.k l.notes) l.slots)
