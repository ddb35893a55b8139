-- `sha256::initial` meets its contract.
use mathlib.Core.Path.{refl}
use Rattle.format.specs.Sha256.{H0}
use Rattle.sha256.proofs.initial.Goals as goal

pub returns : goal.returns
unfolding H0
returns c = refl
