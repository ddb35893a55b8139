-- `sam_header_words::find_word` meets its contract. Assumes nothing.
use mathlib.Core.Path.{sym, ap, ◌∙◌}
use Rattle.sam_header_words.specs.Words.{find_word}
use Rattle.sam_header_words.proofs.find_word.Goals as goal

pub returns-in-Err : goal.returns-in-Err
unfolding find_word
returns-in-Err c = c.refusal_word.ensures ∙ sym (ap find_word c.in-Err.is)

pub returns-in-Ok : goal.returns-in-Ok
unfolding find_word
returns-in-Ok c = sym (ap find_word c.in-Ok.is)
