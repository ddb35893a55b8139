-- `merge_joined::pass_by` meets its contract: the slots of the block are filled and marked.
use native.Mathlib.Omega.{arith}
use Rattle.binary_references.specs.Next.{sq_from}
use Rattle.merge_joined.proofs.pass_by.Goals as goal

pub enter_block-requires : goal.enter_block-requires
enter_block-requires c = record {
  b_len_bound = c.requires.readable.small_b;
  start_in_bounds = c.requires.reached.within;
  area_nonzero = (omega (arith, c.requires.in_bounds.0), c.requires.in_bounds.1);
  placed_2 = c.requires.placed.0;
}

pub mark_all-requires : goal.mark_all-requires
mark_all-requires c =
    let a = c.args in record {
      a_len_bound = (c.requires.readable.small-a, c.requires.readable.apart-a);
      b_len_bound = c.requires.readable.small_b;
      area_nonzero = omega (arith, c.enter_block.auto.area, c.requires.in_bounds.0);
      placed = c.enter_block.ensures.placed;
      marked = c.enter_block.ensures.marked (sq_from a.of.a a.a.now 0) c.requires.placed.1;
    }

pub pass_slots-requires : goal.pass_slots-requires
pass_slots-requires c = record {
  readable = c.requires.readable;
  reached = c.requires.reached;
  good_value = c.requires.good_value;
  in_bounds = (omega (arith, c.enter_block.auto.area, c.mark_all.auto.area, c.requires.in_bounds.0), c.mark_all.ensures);
}
