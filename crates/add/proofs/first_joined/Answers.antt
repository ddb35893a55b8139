-- `add::first_joined` meets its contract.
use mathlib.Core.Path.{refl}
use native.Mathlib.Omega.{arith}
use Rattle.add.proofs.first_joined.Goals as goal

pub returns-then-not-alone : goal.returns-then-not-alone
returns-then-not-alone c = rw c.if-not-alone.true refl

pub returns-then-count-eq0 : goal.returns-then-count-eq0
returns-then-count-eq0 c = rw (c.if-not-alone.false, c.if-count-eq0.true) refl

pub returns : goal.returns
returns c = rw c.if-not-alone.false (omega (arith, c.if-count-eq0.false))
