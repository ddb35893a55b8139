use mathlib.Core.Path.{◌≡◌}
use lib.ListN.{length, drop}
use Rattle.program_chains.specs.Parents.{links_of}
use Rattle.prune_marks.proofs.Marked.{Marking}
use Rattle.prune_marks.proofs.mark_needed.Given as goal

abbrev pub invariant-loop-u : goal.invariant-loop-u
invariant-loop-u l = (length l.marks ≡ 1024) × Marking (links_of l.parents) l.used (drop l.u-index l.used) l.marks
