use Prim.Native.Nat.{◌<◌}
use mathlib.Core.Path.{◌≡◌}
use lib.ListN.{length}
use Rattle.format.specs.Programs.{depth}
use Rattle.program_chains.specs.Parents.{link_of, links_of}
use Rattle.prune_marks.proofs.Marked.{Walking}
use Rattle.prune_marks.proofs.mark_up.Given as goal

abbrev pub invariant-loop-at : goal.invariant-loop-at
invariant-loop-at l = (length l.marks ≡ length l.initial.marks) × ((l.at ≡ 4294967295 → ⊥) → l.at < length l.parents) × Walking (links_of l.parents) l.u l.initial.marks l.marks (link_of l.at)

abbrev pub decreases-loop-at : goal.decreases-loop-at
decreases-loop-at l = depth (links_of l.parents) (length (links_of l.parents)) (link_of l.at)
