-- `sam_header::sam_header_binary_len` meets its contract. Assumes nothing.
use mathlib.Core.Path.{ap, ◌∙◌}
use Rattle.sam_header_words.specs.Words.{len_word}
use Rattle.sam_header.proofs.sam_header_binary_len.Goals as goal

pub returns : goal.returns
returns c = c.len_word.ensures ∙ ap len_word c.binary_len.ensures
