-- `sam_header_words::checked_word` meets its contract. Assumes nothing.
use mathlib.Core.Path.{sym, ap, ◌∙◌}
use Rattle.sam_header_words.specs.Words.{checked_word}
use Rattle.sam_header_words.proofs.checked_word.Goals as goal

pub returns-in-Err : goal.returns-in-Err
unfolding checked_word
returns-in-Err c = c.refusal_word.ensures ∙ sym (ap checked_word c.in-Err.is)

pub returns-in-Ok : goal.returns-in-Ok
unfolding checked_word
returns-in-Ok c = sym (ap checked_word c.in-Ok.is)
