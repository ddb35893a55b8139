-- `sip_hash::whole` meets its contract: the words that are left.
use Rattle.std.proofs.Common.{◌/◌, length, arith}
use Rattle.sip_hash.specs.Parts.{state_of}
use Rattle.sip_hash.proofs.Turns.{begun-none, begun_more, begun_all}
use Rattle.sip_hash.proofs.whole.Goals as goal

pub loop-i-init : goal.loop-i-init
loop-i-init c = begun-none _ _ _ _

pub loop-i-preserved : goal.loop-i-preserved
loop-i-preserved c =
    let a = c.args in
    let l = c.loop-i in
    begun_more a.c a.bytes.now (length a.bytes.now / 8) (state_of a.start) (state_of l.s) (state_of c.absorb-s.result) l.i c.get_u64.result (omega arith) c.get_u64.ensures c.absorb-s.ensures l.invariant

pub returns : goal.returns
returns c =
    let a = c.args in
    begun_all a.c a.bytes.now (length a.bytes.now / 8) (state_of a.start) (state_of c.loop-i.s) c.loop-i.i (omega arith) c.loop-i.invariant
