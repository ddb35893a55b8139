-- `sam_header::sam_header_field` meets its contract. Assumes nothing.
use mathlib.Core.Path.{ap, ◌∙◌}
use Rattle.sam_header_words.specs.Words.{field_word}
use Rattle.sam_header.proofs.sam_header_field.Goals as goal

pub returns : goal.returns
returns c = c.field_word.ensures ∙ ap field_word c.place.ensures
