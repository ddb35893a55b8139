use Rattle.program_ids.specs.Ids.{ids_at}
use Rattle.program_ids.proofs.Search.{Ahead}
use Rattle.program_ids.proofs.find_program.Given as goal

abbrev pub invariant-loop-k : goal.invariant-loop-k
invariant-loop-k l = Ahead l.id (ids_at l.text l.ids) l.k
