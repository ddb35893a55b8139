-- `sam_header_words::key_word` meets its contract. Assumes nothing.
use mathlib.Core.Path.{sym, ap, ◌∙◌}
use Rattle.sam_header_words.specs.Words.{key_word}
use Rattle.sam_header_words.proofs.key_word.Goals as goal

pub returns-in-Err : goal.returns-in-Err
unfolding key_word
returns-in-Err c = c.refusal_word.ensures ∙ sym (ap key_word c.in-Err.is)

pub returns-in-Ok : goal.returns-in-Ok
unfolding key_word
returns-in-Ok c = c.pair_word.ensures ∙ sym (ap key_word c.in-Ok.is)
