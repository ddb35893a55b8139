-- `sam_header::sam_header_count` meets its contract. Assumes nothing.
use mathlib.Core.Path.{ap, ◌∙◌}
use Rattle.sam_header_words.specs.Words.{answer_word}
use Rattle.sam_header.proofs.sam_header_count.Goals as goal

pub returns : goal.returns
returns c = c.answer_word.ensures ∙ ap answer_word c.count.ensures
