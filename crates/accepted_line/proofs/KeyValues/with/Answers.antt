-- `accepted_line::KeyValues::with` meets its contract.
use borrow.Author.Tests.{eq-eqb, ne_eqb}
use Rattle.accepted_line.specs.Keys.{with_key}
use Rattle.accepted_line.proofs.KeyValues.with.Goals as goal

pub returns-then-a-eq76 : goal.returns-then-a-eq76
unfolding with_key
returns-then-a-eq76 c = simp (eq-eqb _ _ c.if-a-eq76.true)

pub returns-else-a-eq76 : goal.returns-else-a-eq76
unfolding with_key
returns-else-a-eq76 c = simp (ne_eqb _ _ c.if-a-eq76.false)
