-- `sam_header::sam_header_check_sealed` meets its contract.
use mathlib.Core.Path.{ap, ◌∙◌}
use Rattle.sam_header_words.specs.Words.{checked_word}
use Rattle.sam_header.proofs.sam_header_check_sealed.Goals as goal

pub returns : goal.returns
returns c = let s = c.check_sealed in record {
  checked = c.checked_word.ensures ∙ ap checked_word s.ensures.checked;
  wrote = s.ensures.wrote;
}
