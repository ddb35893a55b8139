-- `sam_header_words::len_word` meets its contract. Assumes nothing.
use mathlib.Core.Path.{sym, ap, ◌∙◌}
use Rattle.std.specs.Prelude.{Ok}
use Rattle.sam_header_words.specs.Words.{len_word}
use Rattle.sam_header_words.proofs.len_word.Goals as goal

pub returns-in-Err : goal.returns-in-Err
unfolding len_word
returns-in-Err c = c.refusal_word.ensures ∙ rw c.of_text.ensures (sym (ap len_word c.in-Err.is))

pub returns-in-Whole : goal.returns-in-Whole
unfolding len_word
returns-in-Whole c = c.short_word.ensures ∙ sym (ap len_word (c.in-Ok.is ∙ ap Ok c.in-Whole.is))

pub returns-in-More : goal.returns-in-More
unfolding len_word
returns-in-More c = c.short_word-in-More.ensures ∙ sym (ap len_word (c.in-Ok.is ∙ ap Ok c.in-More.is))
