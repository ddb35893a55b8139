-- `replay_calls::keep` is safe and ends. Assumes nothing.
use mathlib.Core.Path.{sym}
use lib.Seq.{length-take-le}
use borrow.Author.Rules.{rules}
use Rattle.replay_calls.proofs.keep.Goals as goal

pub returns-in-Ok : goal.returns-in-Ok
returns-in-Ok c = (search rules, sym (length-take-le _ _ (search rules)), search rules)
