-- `sam_header::sam_header_tidy_with` meets its contract.
use mathlib.Core.Path.{ap, ◌∙◌}
use Rattle.sam_header_words.specs.Words.{answer_word}
use Rattle.sam_header.proofs.sam_header_tidy_with.Goals as goal

pub returns : goal.returns
returns c = let r = c.tidy_with in record {
  answer = c.answer_word.ensures ∙ ap answer_word r.ensures.answer;
  wrote = r.ensures.wrote;
  zeros = r.ensures.zeros;
}
