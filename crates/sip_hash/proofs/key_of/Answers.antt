-- `sip_hash::key_of` meets its contract: two words.
use Rattle.format.specs.SipHash.{key_of}
use Rattle.sip_hash.proofs.key_of.Goals as goal

pub returns : goal.returns
unfolding key_of
returns c = cc
