-- `replay_texts::is_program` is safe and ends. Assumes nothing.
use native.Mathlib.Omega.{arith}
use Rattle.tidy_answer.proofs.ProgramOutput.{program-length}
use Rattle.replay_texts.proofs.is_program.Goals as goal

pub slice_bounds-is_text-end : goal.slice_bounds-is_text-end
slice_bounds-is_text-end c = omega (arith, program-length _ _ _ c.answer-n.ensures.wrote (omega arith))
