-- `sam_header::sam_header_check` meets its contract. Assumes nothing.
use mathlib.Core.Path.{ap, ◌∙◌}
use Rattle.sam_header_words.specs.Words.{checked_word}
use Rattle.sam_header.proofs.sam_header_check.Goals as goal

pub returns : goal.returns
returns c = c.checked_word.ensures ∙ ap checked_word c.check.ensures
