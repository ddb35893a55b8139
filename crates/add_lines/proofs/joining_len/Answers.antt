-- `add_lines::joining_len` meets its contract.
use mathlib.Core.Path.{sym, ap}
use native.Mathlib.Omega.{arith}
use lib.ListN.{length}
use Rattle.add_lines.proofs.Lines.{joining-none, joining-some}
use Rattle.add_lines.proofs.joining_len.Goals as goal

pub returns-then-alone : goal.returns-then-alone
returns-then-alone c = sym (ap length (joining-none c.args.alone c.args.id.now c.if-alone.true))

pub returns : goal.returns
returns c = omega (arith, ap length (joining-some c.args.alone c.args.id.now c.if-alone.false))
