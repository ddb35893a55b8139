-- `sha256::sum` meets its contract: a sum for each word.
use Rattle.format.specs.Sha256.{sum, sum32}
use Rattle.sha256.proofs.sum.Goals as goal

pub returns : goal.returns
unfolding sum sum32
returns c = cc
