-- `sam_header_words::pair_word` meets its contract. Assumes nothing.
use mathlib.Core.Path.{refl}
use Rattle.sam_header_words.specs.Words.{pair_word}
use Rattle.sam_header_words.proofs.pair_word.Goals as goal

pub returns : goal.returns
unfolding pair_word
returns c = refl
