-- `replay_cases::is_untouched` meets its contract: the elements from `i` on decide. Assumes nothing.
use mathlib.Core.Path.{refl, sym, ◌∙◌}
use native.Mathlib.Omega.{arith}
use Rattle.replay_cases.proofs.Whole.{spent, stops, goes}
use Rattle.replay_cases.proofs.is_untouched.Goals as goal

pub loop-i-init : goal.loop-i-init
loop-i-init c = refl

pub returns-then-kept-i : goal.returns-then-kept-i
returns-then-kept-i c = sym (c.loop-i.invariant ∙ stops 165 c.args.kept.now c.loop-i.i (omega arith) c.if-kept-i.true)

pub loop-i-preserved : goal.loop-i-preserved
loop-i-preserved c = c.loop-i.invariant ∙ goes 165 c.args.kept.now c.loop-i.i (omega arith) c.if-kept-i.false

pub returns : goal.returns
returns c = sym (c.loop-i.invariant ∙ spent 165 c.args.kept.now c.loop-i.i (omega arith))
