use mathlib.Core.Path.{◌≡◌}
use lib.ListN.{drop}
use Rattle.format.specs.Programs.{loops_from}
use Rattle.program_chains.specs.Parents.{links_of}
use Rattle.program_walks.proofs.has_cycle.Given as goal

abbrev pub invariant-loop-i : goal.invariant-loop-i
invariant-loop-i l = loops_from (links_of l.parents) 0 (links_of l.parents) ≡ loops_from (links_of l.parents) l.i (links_of (drop l.i l.parents))
