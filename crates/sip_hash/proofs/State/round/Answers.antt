-- `sip_hash::State::round` meets its contract: the machine's operations are the definition's.
use Rattle.format.specs.SipHash.{plus, rotl, mixed, round}
use Rattle.sip_hash.proofs.State.round.Goals as goal

pub returns : goal.returns
unfolding plus rotl mixed round
returns c = cc
