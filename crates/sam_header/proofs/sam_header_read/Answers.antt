-- `sam_header::sam_header_read` meets its contract. Assumes nothing.
use mathlib.Core.Path.{ap, ◌∙◌}
use Rattle.sam_header_words.specs.Words.{answer_word}
use Rattle.sam_header.proofs.sam_header_read.Goals as goal

pub returns : goal.returns
returns c = record {
  answer = c.answer_word.ensures ∙ ap answer_word c.read.ensures.answer;
  wrote = c.read.ensures.wrote;
}
