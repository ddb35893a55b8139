-- `carry_passes::measure` meets its contract: slots of zeros hold no program, and the area is emptied last.
use mathlib.Core.Path.{ap, ◌∙◌}
use native.Mathlib.Omega.{arith}
use lib.ListN.{replicate}
use Rattle.format.specs.Work.{all_zeros}
use Rattle.format.proofs.Slots.{held_none}
use Rattle.key_look.specs.Seed.{plain_seed}
use Rattle.key_index.specs.KeySlots.{start}
use Rattle.carry_passes.proofs.MeasuredSizes.{kept-told}
use Rattle.carry_passes.proofs.measure.Goals as goal

pub measure_lines-measured-requires : goal.measure_lines-measured-requires
measure_lines-measured-requires c = record {
  text_len_bound = c.requires.text_len_bound;
  first = c.requires.first;
  fresh = record { some = c.requires.in_bounds; room = omega arith; held = held_none (start plain_seed c.args.text.now 2048) 2048 };
}

pub returns : goal.returns
unfolding all_zeros
returns c =
    let a = c.args in
    let e = c.measure_lines-measured.ensures in record {
      measured = e.measured;
      refusal = kept-told a.text.now a.b c.measure_lines-measured.result e.measured;
      zeros = c.clear.ensures ∙ ap (λ n. replicate n 0) e.room;
    }
