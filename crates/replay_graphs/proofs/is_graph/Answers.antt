-- `replay_graphs::is_graph` is safe and ends. Assumes nothing.
use mathlib.Core.Path.{sym}
use native.Mathlib.Omega.{arith}
use lib.Seq.{length-take-le}
use Rattle.replay_graphs.proofs.is_graph.Goals as goal

pub slice_bounds-are_roots-end : goal.slice_bounds-are_roots-end
slice_bounds-are_roots-end c = sym (length-take-le _ _ (omega arith))

pub slice_bounds-are_leaves-end : goal.slice_bounds-are_leaves-end
slice_bounds-are_leaves-end c = sym (length-take-le _ _ (omega arith))
