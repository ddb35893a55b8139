use Rattle.std.proofs.Common.{◌≡◌, ◌+◌, drop}
use Rattle.format.specs.Slots.{around, full}
use Rattle.name_index.proofs.free_slot.Given as goal

abbrev pub invariant-loop-i : goal.invariant-loop-i
invariant-loop-i l = full (around l.first l.slots) ≡ l.i + full (drop l.i (around l.first l.slots))
