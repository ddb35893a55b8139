-- `sha256::ch` meets its contract: the machine's operations are the definition's.
use mathlib.Core.Path.{refl}
use Rattle.format.specs.Sha256.{complement, Ch}
use Rattle.sha256.proofs.ch.Goals as goal

pub returns : goal.returns
unfolding Ch complement
returns c = refl
