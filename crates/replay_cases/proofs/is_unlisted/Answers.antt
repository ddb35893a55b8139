-- `replay_cases::is_unlisted` meets its contract: the elements from `i` on decide. Assumes nothing.
use mathlib.Core.Path.{refl, sym, ◌∙◌}
use native.Mathlib.Omega.{arith}
use Rattle.replay_cases.proofs.Whole.{spent, stops, goes}
use Rattle.replay_cases.proofs.is_unlisted.Goals as goal

pub loop-i-init : goal.loop-i-init
loop-i-init c = refl

pub returns-then-list-i : goal.returns-then-list-i
returns-then-list-i c = sym (c.loop-i.invariant ∙ stops 2779096485 c.args.list.now c.loop-i.i (omega arith) c.if-list-i.true)

pub loop-i-preserved : goal.loop-i-preserved
loop-i-preserved c = c.loop-i.invariant ∙ goes 2779096485 c.args.list.now c.loop-i.i (omega arith) c.if-list-i.false

pub returns : goal.returns
returns c = sym (c.loop-i.invariant ∙ spent 2779096485 c.args.list.now c.loop-i.i (omega arith))
