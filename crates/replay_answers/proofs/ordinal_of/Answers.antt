-- `replay_answers::ordinal_of` meets its contract: the word's number, or the largest that fits.
use mathlib.Core.Path.{ap, ◌∙◌}
use Rattle.replay_cases.specs.Cases.{smaller}
use Rattle.replay_answers.proofs.ordinal_of.Goals as goal

pub returns : goal.returns
returns c = c.least.ensures.2 ∙ ap (λ n. smaller n 4294967295) c.number.ensures.1
