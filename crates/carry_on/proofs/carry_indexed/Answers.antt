-- `carry_on::carry_indexed` meets its contract: the first line that is kept is found, the lines from there on are measured, then written.
use native.Mathlib.Omega.{arith}
use Rattle.carry_on.proofs.AnswerCases.{zeros-long}
use Rattle.carry_on.proofs.carry_indexed.Goals as goal

pub measure-measured-requires : goal.measure-measured-requires
measure-measured-requires c = record {
  text_len_bound = c.requires.text_len_bound;
  first = c.find_first-b.ensures;
  in_bounds = c.requires.in_bounds;
}

pub write_measured-requires : goal.write_measured-requires
write_measured-requires c = record {
  text_len_bound = c.requires.text_len_bound;
  first = c.find_first-b.ensures;
  in_bounds = omega (arith, zeros-long _ _ c.measure-measured.ensures.zeros, c.requires.in_bounds);
  measured_value = c.measure-measured.ensures.measured;
}
