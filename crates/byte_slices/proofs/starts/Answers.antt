-- `byte_slices::starts` meets its contract: std compares pair by pair.
use mathlib.Core.Path.{◌∙◌}
use Rattle.byte_slices.proofs.Equal.{pointwise-starts}
use Rattle.byte_slices.proofs.starts.Goals as goal

pub returns : goal.returns
returns c = c.starts_with.ensures.value ∙ pointwise-starts _ _
