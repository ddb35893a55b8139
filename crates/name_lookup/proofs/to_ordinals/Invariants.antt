use Rattle.name_lookup.specs.Looking.{ordinal_at}
use Rattle.name_lookup.proofs.Mapped.{Mapped}
use Rattle.name_lookup.proofs.to_ordinals.Given as goal

abbrev pub invariant-loop-p : goal.invariant-loop-p
invariant-loop-p l = Mapped (ordinal_at l.slots) l.initial.out l.out l.p-index
