-- `sip_hash::sip_hash_with` meets its contract: the whole words, and then the last.
use Rattle.sip_hash.specs.Parts.{state_of}
use Rattle.sip_hash.proofs.Last.{composed}
use Rattle.sip_hash.proofs.sip_hash_with.Goals as goal

pub returns : goal.returns
returns c =
    let a = c.args in
    composed a.c a.d a.k0 a.k1 c.tail-rest.result c.finish.result a.bytes.now (state_of c.initial.result) (state_of c.whole-s.result) (state_of c.absorb.result) c.tail-rest.ensures.0 c.initial.ensures c.whole-s.ensures c.absorb.ensures c.finish.ensures
