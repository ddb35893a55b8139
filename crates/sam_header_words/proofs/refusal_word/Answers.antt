-- `sam_header_words::refusal_word` meets its contract. Assumes nothing.
use mathlib.Core.Path.{refl}
use Rattle.sam_header_words.specs.Words.{refusal_word}
use Rattle.sam_header_words.proofs.refusal_word.Goals as goal

pub returns : goal.returns
unfolding refusal_word
returns c = refl
