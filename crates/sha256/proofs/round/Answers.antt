-- `sha256::round` meets its contract: each call is a part of the definition.
use Rattle.format.specs.Sha256.{round, sum32}
use Rattle.sha256.proofs.round.Goals as goal

pub returns : goal.returns
unfolding round sum32
returns c = cc
