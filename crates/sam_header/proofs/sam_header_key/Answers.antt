-- `sam_header::sam_header_key` meets its contract. Assumes nothing.
use mathlib.Core.Path.{ap, ◌∙◌}
use Rattle.sam_header_words.specs.Words.{key_word}
use Rattle.sam_header.proofs.sam_header_key.Goals as goal

pub returns : goal.returns
returns c = c.key_word.ensures ∙ ap key_word c.key.ensures
