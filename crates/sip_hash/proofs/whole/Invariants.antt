use Rattle.sip_hash.specs.Parts.{state_of}
use Rattle.sip_hash.proofs.Turns.{Begun}
use Rattle.sip_hash.proofs.whole.Given as goal

abbrev pub invariant-loop-i : goal.invariant-loop-i
invariant-loop-i l = Begun l.c l.bytes l.n (state_of l.initial.s) (state_of l.s) l.i
