-- `sam_header::sam_header_seal` meets its contract.
use mathlib.Core.Path.{ap, ◌∙◌}
use Rattle.sam_header_words.specs.Words.{answer_word}
use Rattle.sam_header.proofs.sam_header_seal.Goals as goal

pub returns : goal.returns
returns c = let s = c.seal in record {
  answer = c.answer_word.ensures ∙ ap answer_word s.ensures.answer;
  wrote = c.seal.ensures.wrote;
  sealed = c.seal.ensures.sealed;
}
