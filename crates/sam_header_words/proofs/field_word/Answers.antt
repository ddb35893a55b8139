-- `sam_header_words::field_word` meets its contract. Assumes nothing.
use mathlib.Core.Path.{sym, ap, ◌∙◌}
use Rattle.sam_header_words.specs.Words.{field_word}
use Rattle.sam_header_words.proofs.field_word.Goals as goal

pub returns-in-None : goal.returns-in-None
unfolding field_word
returns-in-None c = sym (ap field_word c.in-None.is)

pub returns-in-Some : goal.returns-in-Some
unfolding field_word
returns-in-Some c = c.pair_word.ensures ∙ sym (ap field_word c.in-Some.is)
