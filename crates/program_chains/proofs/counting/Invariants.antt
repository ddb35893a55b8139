use mathlib.Core.Path.{◌≡◌}
use Rattle.format.specs.Programs.{numbers_from}
use Rattle.program_chains.specs.Parents.{in_array}
use Rattle.program_chains.proofs.counting.Given as goal

abbrev pub invariant-loop-i : goal.invariant-loop-i
invariant-loop-i l = l.list ≡ in_array (numbers_from 0 l.i)
