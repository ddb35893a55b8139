-- `key_look::hash::mix` meets its contract.
use mathlib.Core.Path.{refl}
use Rattle.key_look.specs.Hash.{folded, mixed}
use Rattle.key_look.proofs.hash.mix.Goals as goal

pub returns : goal.returns
unfolding folded mixed
returns c = refl
