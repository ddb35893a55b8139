-- `name_index::enter` meets its contract: the slot that is free holds the value, and is answered.
use Rattle.std.proofs.Common.{◌<◌, length, set, ap, arith}
use Rattle.name_index.proofs.Path.{seat-lt}
use Rattle.name_index.proofs.enter.Goals as goal
use Rattle.name_index.proofs.enter.Goals.{After-free_slot-at}

inside : (c : After-free_slot-at) → c.free_slot-at.result < length c.args.slots.now
inside c =
    let slots = c.args.slots.now in
    omega (arith, c.free_slot-at.ensures, seat-lt c.args.first slots (omega (arith, c.requires.first_in_bounds)))

pub offset_bounds-slots-at : goal.offset_bounds-slots-at
offset_bounds-slots-at c = omega (arith, inside c, c.requires.slots_len_bound)

pub bounds-slots-at : goal.bounds-slots-at
bounds-slots-at c = inside c

pub returns : goal.returns
returns c = let a = c.args in record {
  at = c.free_slot-at.ensures;
  wrote = ap (λ i. set a.slots.now i a.value) c.free_slot-at.ensures;
}
