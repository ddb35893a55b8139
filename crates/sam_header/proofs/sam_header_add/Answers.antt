-- `sam_header::sam_header_add` meets its contract. Assumes nothing.
use mathlib.Core.Path.{ap, ◌∙◌}
use Rattle.sam_header_words.specs.Words.{answer_word}
use Rattle.sam_header.proofs.sam_header_add.Goals as goal

pub returns : goal.returns
returns c = record {
  answer = c.answer_word.ensures ∙ ap answer_word c.add.ensures.answer;
  wrote = c.add.ensures.wrote;
}
