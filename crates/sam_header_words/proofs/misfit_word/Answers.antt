-- `sam_header_words::misfit_word` meets its contract. Assumes nothing.
use mathlib.Core.Path.{sym, ap, ◌∙◌}
use Rattle.std.specs.Prelude.{Err}
use Rattle.sam_header_words.specs.Words.{verdict_word}
use Rattle.sam_header_words.proofs.misfit_word.Goals as goal

pub returns-in-Unfit : goal.returns-in-Unfit
unfolding verdict_word
returns-in-Unfit c = c.unfit_word.ensures ∙ sym (ap (λ m. verdict_word (Err m)) c.in-Unfit.is)

pub returns-in-Unmerged : goal.returns-in-Unmerged
unfolding verdict_word
returns-in-Unmerged c = c.refusal_word.ensures ∙ rw c.of_text.ensures (sym (ap (λ m. verdict_word (Err m)) c.in-Unmerged.is))
