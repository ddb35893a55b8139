use Rattle.program_ids.specs.Places.{places_of}
use Rattle.program_ids.proofs.Ids.{Listed}
use Rattle.program_ids.proofs.list_ids.Given as goal

abbrev pub invariant-loop-k : goal.invariant-loop-k
invariant-loop-k l = Listed l.text (places_of l.ats l.lens) l.initial.list l.list l.k
