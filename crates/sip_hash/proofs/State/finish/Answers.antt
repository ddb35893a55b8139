-- `sip_hash::State::finish` meets its contract.
use Rattle.std.proofs.Common.{ap}
use Rattle.format.specs.SipHash.{joined, finish}
use Rattle.sip_hash.proofs.State.finish.Goals as goal

pub returns : goal.returns
unfolding joined finish
returns c = ap joined c.rounds-t.ensures
