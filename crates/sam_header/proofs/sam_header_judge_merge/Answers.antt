-- `sam_header::sam_header_judge_merge` meets its contract. Assumes nothing.
use mathlib.Core.Path.{ap, ◌∙◌}
use Rattle.sam_header_words.specs.Words.{verdict_word}
use Rattle.sam_header.proofs.sam_header_judge_merge.Goals as goal

pub returns : goal.returns
returns c = c.verdict_word.ensures ∙ ap verdict_word c.judge_merge.ensures
