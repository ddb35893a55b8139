-- `sha256::maj` meets its contract: the machine's operations are the definition's.
use mathlib.Core.Path.{refl}
use Rattle.format.specs.Sha256.{Maj}
use Rattle.sha256.proofs.maj.Goals as goal

pub returns : goal.returns
unfolding Maj
returns c = refl
