use Rattle.sip_hash.specs.Parts.{state_of}
use Rattle.sip_hash.proofs.Turns.{Left}
use Rattle.sip_hash.proofs.State.rounds.Given as goal

abbrev pub invariant-loop : goal.invariant-loop
invariant-loop l = Left l.n (state_of l.initial.s) (state_of l.s) l.counter
