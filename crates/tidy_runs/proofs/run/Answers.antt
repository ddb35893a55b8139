-- `tidy_runs::run` is safe: what is to be written is within the buffer.
use Prim.Native.Nat.{◌≤◌}
use mathlib.Core.Path.{sym}
use native.Mathlib.Omega.{arith}
use lib.ListN.{length}
use lib.Seq.{length-take-le}
use Rattle.tidy_answer.proofs.ProgramOutput.{program-within}
use Rattle.tidy_runs.proofs.run.Goals as goal
use Rattle.tidy_runs.proofs.run.Goals.{After-answer-m}

-- the program writes 65,536 bytes at most
within : (c : After-answer-m) → c.answer-m.result ≤ length c.answer-m.new.out
within c = program-within _ _ _ _ c.answer-m.ensures.next c.answer-m.ensures.wrote (omega arith)

pub slice_bounds-out-end : goal.slice_bounds-out-end
slice_bounds-out-end c = within c

pub slice_bounds-write_all-end : goal.slice_bounds-write_all-end
slice_bounds-write_all-end c = sym (length-take-le _ _ (within (goal.at.slice_bounds-write_all-end c).After-answer-m))
