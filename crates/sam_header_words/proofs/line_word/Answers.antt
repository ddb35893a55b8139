-- `sam_header_words::line_word` meets its contract. Assumes nothing.
use mathlib.Core.Path.{sym, ap, ◌∙◌}
use Rattle.sam_header_words.specs.Words.{line_word}
use Rattle.sam_header_words.proofs.line_word.Goals as goal

pub returns-in-Err : goal.returns-in-Err
unfolding line_word
returns-in-Err c = c.refusal_word.ensures ∙ sym (ap line_word c.in-Err.is)

pub returns-in-Ok : goal.returns-in-Ok
unfolding line_word
returns-in-Ok c = sym (ap line_word c.in-Ok.is)
