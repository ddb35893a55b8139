-- `sam_header::sam_header_check_with` meets its contract.
use mathlib.Core.Path.{ap, ◌∙◌}
use Rattle.sam_header_words.specs.Words.{checked_word}
use Rattle.sam_header.proofs.sam_header_check_with.Goals as goal

pub returns : goal.returns
returns c = let r = c.check_with in record {
  checked = c.checked_word.ensures ∙ ap checked_word r.ensures.checked;
  zeros = r.ensures.zeros;
}
