-- `sip_hash::State::rounds` meets its contract: the rounds that are left.
use Rattle.std.proofs.Common.{arith}
use Rattle.sip_hash.specs.Parts.{state_of}
use Rattle.sip_hash.proofs.Turns.{left-none, left-more, left-all}
use Rattle.sip_hash.proofs.State.rounds.Goals as goal

pub loop-init : goal.loop-init
loop-init c = left-none _ _

pub loop-preserved : goal.loop-preserved
loop-preserved c =
    let a = c.args in
    let l = c.loop in
    left-more a.n (state_of a.self) (state_of l.s) (state_of c.round-s.result) l.counter (omega arith) c.round-s.ensures l.invariant

pub returns : goal.returns
returns c =
    let a = c.args in
    let l = c.loop in
    left-all a.n (state_of a.self) (state_of l.s) l.counter (omega arith) l.invariant
