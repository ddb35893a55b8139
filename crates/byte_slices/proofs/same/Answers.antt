-- `byte_slices::same` meets its contract: std compares pair by pair.
use mathlib.Core.Path.{◌∙◌}
use Rattle.byte_slices.proofs.Equal.{pointwise-same}
use Rattle.byte_slices.proofs.same.Goals as goal

pub returns : goal.returns
returns c = c.eq.ensures ∙ pointwise-same _ _
