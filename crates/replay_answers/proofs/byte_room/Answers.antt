-- `replay_answers::byte_room` is at most the output's length. Assumes nothing.
use mathlib.Core.Path.{sym, ap, ◌∙◌}
use Rattle.replay_cases.specs.Cases.{smaller}
use lib.ListN.{length}
use lib.Seq.{length-take-le}
use borrow.Author.Rules.{rules}
use Rattle.replay_answers.proofs.byte_room.Goals as goal

pub returns : goal.returns
returns c = (search rules, sym (length-take-le _ _ (search rules)), c.least.ensures.2 ∙ ap (λ n. smaller n (length c.args.out.now)) c.number.ensures.1)
