-- `field_tag::is_same_tag` meets its contract: where the first bytes differ, that is the answer; otherwise the second bytes decide.
use borrow.Author.Tests.{eq-eqb, ne_eqb}
use Rattle.field_tag.proofs.is_same_tag.Goals as goal

pub returns-then-a-x : goal.returns-then-a-x
returns-then-a-x c = simp (eq-eqb _ _ c.if-a-x.true)

pub returns-else-a-x : goal.returns-else-a-x
returns-else-a-x c = simp (ne_eqb _ _ c.if-a-x.false)
