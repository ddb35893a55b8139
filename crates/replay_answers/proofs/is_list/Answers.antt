-- `replay_answers::is_list` is safe and ends. Assumes nothing.
use mathlib.Core.Path.{sym}
use native.Mathlib.Omega.{arith}
use lib.Seq.{length-take-le}
use Rattle.replay_answers.proofs.is_list.Goals as goal

pub slice_bounds-is_ordinals-end : goal.slice_bounds-is_ordinals-end
slice_bounds-is_ordinals-end c = sym (length-take-le _ _ (omega arith))
