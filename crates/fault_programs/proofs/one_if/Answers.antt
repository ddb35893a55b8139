-- `fault_programs::one_if` meets its contract.
use mathlib.Core.Path.{sym}
use Rattle.fault_programs.proofs.KeptPrograms.{one_none, one-some}
use Rattle.fault_programs.proofs.one_if.Goals as goal

pub returns-then-n-eq0 : goal.returns-then-n-eq0
returns-then-n-eq0 c = sym (one_none _ c.if-n-eq0.true)

pub returns : goal.returns
returns c = sym (one-some _ c.if-n-eq0.false)
