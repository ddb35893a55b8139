-- `sam_header::sam_header_find` meets its contract. Assumes nothing.
use mathlib.Core.Path.{ap, ◌∙◌}
use Rattle.sam_header_words.specs.Words.{find_word}
use Rattle.sam_header.proofs.sam_header_find.Goals as goal

pub returns : goal.returns
returns c = c.find_word.ensures ∙ ap find_word c.find.ensures
