use mathlib.Core.Path.{◌≡◌}
use lib.ListN.{replicate}
use Rattle.program_chains.specs.Parents.{in_array}
use Rattle.program_depths.proofs.unknown.Given as goal

abbrev pub invariant-loop-at : goal.invariant-loop-at
invariant-loop-at l = l.list ≡ in_array (replicate l.at 4294967295)
