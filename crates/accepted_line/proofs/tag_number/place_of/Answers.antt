-- `accepted_line::tag_number::place_of` meets its contract: each test that failed on the way takes one class away.
use borrow.Author.Tests.{le-leb, lt-leb}
use Rattle.accepted_line.specs.Number.{byte_number}
use Rattle.accepted_line.proofs.tag_number.place_of.Goals as goal

pub returns-then-b-ge97 : goal.returns-then-b-ge97
unfolding byte_number
returns-then-b-ge97 c = simp (le-leb _ _ c.if-b-ge97.true)

pub returns-then-b-ge65 : goal.returns-then-b-ge65
unfolding byte_number
returns-then-b-ge65 c = simp (lt-leb _ _ c.if-b-ge97.false, le-leb _ _ c.if-b-ge65.true)

pub returns : goal.returns
unfolding byte_number
returns c = simp (lt-leb _ _ c.if-b-ge97.false, lt-leb _ _ c.if-b-ge65.false)
