-- `sam_header_words::answer_word` meets its contract. Assumes nothing.
use mathlib.Core.Path.{sym, ap, ◌∙◌}
use Rattle.sam_header_words.specs.Words.{answer_word}
use Rattle.sam_header_words.proofs.answer_word.Goals as goal

pub returns-in-Err : goal.returns-in-Err
unfolding answer_word
returns-in-Err c = c.refusal_word.ensures ∙ sym (ap answer_word c.in-Err.is)

pub returns-in-Ok : goal.returns-in-Ok
unfolding answer_word
returns-in-Ok c = sym (ap answer_word c.in-Ok.is)
