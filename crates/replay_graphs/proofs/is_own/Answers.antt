-- `replay_graphs::is_own` is safe: the catalogue is within the buffer. Assumes nothing.
use mathlib.Core.Path.{sym}
use native.Mathlib.Omega.{arith}
use lib.Seq.{length-take-le}
use Rattle.replay_graphs.proofs.is_own.Goals as goal

pub slice_bounds-is_fresh-end-then-is_text : goal.slice_bounds-is_fresh-end-then-is_text
slice_bounds-is_fresh-end-then-is_text c = sym (length-take-le _ _ (omega arith))
