-- `merge_hints::enter_block` meets its contract: offsets enter, and none is marked.
use Prim.Native.Nat.{◌+◌, ◌*◌, ◌%◌}
use mathlib.Core.Path.{◌≡◌, refl, sym, ap, subst, ◌∙◌}
use native.Mathlib.Omega.{arith}
use native.Mathlib.Nat.{mod-lt}
use lib.ListN.{length, set, length-set}
use Rattle.format.specs.Slots.{seat}
use Rattle.merge_hints.specs.Hints.{Placed, Marked}
use Rattle.merge_hints.proofs.Laws.{set-equal, placed-enter, marked-enter}
use Rattle.merge_hints.proofs.enter_block.Goals as goal

pub loop-init : goal.loop-init
loop-init c = (c.requires.start_in_bounds, c.requires.placed_2, (λ rs h. h), refl)

pub next_reference-requires : goal.next_reference-requires
next_reference-requires c = record {
  text_len_bound = c.requires.b_len_bound;
  start_in_bounds = c.loop.invariant.0;
}

pub shape_of-area-in_default : goal.shape_of-area-in_default
shape_of-area-in_default c = c.loop.invariant.3

pub returns-in_default : goal.returns-in_default
returns-in_default c = record {
  placed = c.loop.invariant.1;
  marked = c.loop.invariant.2;
}

pub number-h-requires : goal.number-h-requires
number-h-requires c = c.in-Some.ensures.place.found.name

pub nonzero_rem-h : goal.nonzero_rem-h
nonzero_rem-h c = omega (arith, c.loop.invariant.3, c.requires.area_nonzero.0)

pub overflow_add-at : goal.overflow_add-at
overflow_add-at c = omega (arith, c.loop.invariant.0, c.requires.b_len_bound)

pub overflow_cast-at : goal.overflow_cast-at
overflow_cast-at c = omega (arith, c.loop.invariant.0, c.requires.b_len_bound)

pub overflow_add-at-in-loop : goal.overflow_add-at-in-loop
overflow_add-at-in-loop c = omega (arith, c.loop.invariant.0, c.requires.b_len_bound, c.tag.ensures.1, c.tag.ensures.2)

pub enter-requires : goal.enter-requires
enter-requires c = record {
  first_in_bounds = mod-lt c.number-h.result {m = length c.loop.area} (omega (arith, c.loop.invariant.3, c.requires.area_nonzero.0));
  slots_len_bound = omega (arith, c.loop.invariant.3, c.requires.area_nonzero.1);
}

pub loop-preserved : goal.loop-preserved
loop-preserved c =
    let a = c.args in
    let k = c.tag.ensures in
    let i = seat (c.number-h.result % length c.loop.area) c.loop.area in
    let wrote : c.enter.new.slots ≡ set c.loop.area i (c.loop.at + 1 + k.0 * 33554432) = c.enter.ensures.wrote ∙ set-equal c.loop.area i _ _ (ap (λ x. c.loop.at + 1 + x) k.1) in (
      c.in-Some.ensures.place.found.within,
      subst (Placed a.b.now) (sym wrote) (placed-enter a.b.now c.loop.area i c.loop.at k.0 c.loop.invariant.0 c.requires.b_len_bound k.2 c.loop.invariant.1),
      (λ rs h. subst (Marked a.strict a.b.now rs) (sym wrote) (marked-enter a.b.now c.loop.area i c.loop.at k.0 c.loop.invariant.0 c.requires.b_len_bound k.2 a.strict rs (c.loop.invariant.2 rs h))),
      ap length c.enter.ensures.wrote ∙ length-set c.loop.area _ _ ∙ c.loop.invariant.3,
    )

pub shape_of-area : goal.shape_of-area
shape_of-area c = c.loop.invariant.3

pub returns : goal.returns
returns c = record {
  placed = c.loop.invariant.1;
  marked = c.loop.invariant.2;
}
