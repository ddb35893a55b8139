-- `replay_cases::least` meets its contract. Assumes nothing.
use mathlib.Core.Path.{refl}
use native.Mathlib.Omega.{arith}
use borrow.Author.Tests.{lt-ltb, le-ltb}
use Rattle.replay_cases.specs.Cases.{smaller}
use Rattle.replay_cases.proofs.least.Goals as goal

pub returns-then-a-b : goal.returns-then-a-b
unfolding smaller
returns-then-a-b c = (omega arith, omega arith, rw (lt-ltb _ _ c.if-a-b.true) refl)

pub returns-else-a-b : goal.returns-else-a-b
unfolding smaller
returns-else-a-b c = (omega arith, omega arith, rw (le-ltb _ _ c.if-a-b.false) refl)
