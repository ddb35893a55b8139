-- `sam_header::sam_header_line` meets its contract. Assumes nothing.
use mathlib.Core.Path.{ap, ◌∙◌}
use Rattle.sam_header_words.specs.Words.{line_word}
use Rattle.sam_header.proofs.sam_header_line.Goals as goal

pub returns : goal.returns
returns c = c.line_word.ensures ∙ ap line_word c.line.ensures
