-- `key_look::plain` meets its contract.
use mathlib.Core.Path.{refl}
use Rattle.key_look.specs.Seed.{plain_seed}
use Rattle.key_look.proofs.plain.Goals as goal

pub returns : goal.returns
unfolding plain_seed
returns c = refl
