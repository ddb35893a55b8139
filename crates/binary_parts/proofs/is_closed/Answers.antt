-- `binary_parts::is_closed` meets its contract: there is no byte, or the last one decides.
use Rattle.binary_parts.proofs.Closed.{closed_none, closed-last}
use Rattle.binary_parts.proofs.is_closed.Goals as goal

pub returns-then-n-eq0 : goal.returns-then-n-eq0
returns-then-n-eq0 c = closed_none _ c.if-n-eq0.true

pub returns : goal.returns
returns c = closed-last _ c.if-n-eq0.false
