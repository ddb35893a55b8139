-- `binary_len::binary_len` meets its contract: the first cursor answers as the bytes from their start.
use mathlib.Core.Path.{refl, ap, ◌∙◌}
use Rattle.binary_len.specs.Step.{at_first, len_from}
use Rattle.binary_len.proofs.Resume.{from_start}
use Rattle.binary_len.proofs.binary_len.Goals as goal

pub returns : goal.returns
unfolding at_first
returns c =
    let s = c.args.bytes.now in
    c.without_cursor.ensures ∙ c.binary_len_from.ensures.answer ∙ ap (λ x. len_from x s) c.first_cursor.ensures ∙ from_start at_first s refl
