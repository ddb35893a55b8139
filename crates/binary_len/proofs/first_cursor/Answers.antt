-- `binary_len::first_cursor` meets its contract.
use mathlib.Core.Path.{refl}
use Rattle.binary_len.specs.Step.{at_first}
use Rattle.binary_len.proofs.first_cursor.Goals as goal

pub returns : goal.returns
unfolding at_first
returns c = refl
