-- `sip_hash::initial` meets its contract.
use Rattle.std.proofs.Common.{refl}
use Rattle.format.specs.SipHash.{initial}
use Rattle.sip_hash.proofs.initial.Goals as goal

pub returns : goal.returns
unfolding initial
returns c = refl
