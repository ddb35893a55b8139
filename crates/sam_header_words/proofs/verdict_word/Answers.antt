-- `sam_header_words::verdict_word` meets its contract. Assumes nothing.
use mathlib.Core.Path.{sym, ap, ◌∙◌}
use Rattle.sam_header_words.specs.Words.{verdict_word}
use Rattle.sam_header_words.proofs.verdict_word.Goals as goal

pub returns-in-Ok : goal.returns-in-Ok
unfolding verdict_word
returns-in-Ok c = sym (ap verdict_word c.in-Ok.is)

pub returns-in-Err : goal.returns-in-Err
returns-in-Err c = c.misfit_word.ensures ∙ sym (ap verdict_word c.in-Err.is)
