-- `name_slots::check_bits` meets its contract: low and high bits of the number.
use mathlib.Core.Path.{refl}
use Rattle.name_slots.specs.Filled.{mark_of}
use Rattle.name_slots.proofs.check_bits.Goals as goal

pub returns : goal.returns
unfolding mark_of
returns c = refl
