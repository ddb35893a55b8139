-- `sam_header::sam_header_faults` meets its contract. Assumes nothing.
use mathlib.Core.Path.{ap, ◌∙◌}
use Rattle.sam_header_words.specs.Words.{answer_word}
use Rattle.sam_header.proofs.sam_header_faults.Goals as goal

pub returns : goal.returns
returns c = record {
  answer = c.answer_word.ensures ∙ ap answer_word c.faults.ensures.answer;
  listed = c.faults.ensures.listed;
}
