-- `add_lines::linking_len` meets its contract.
use mathlib.Core.Path.{sym, ap}
use native.Mathlib.Omega.{arith}
use lib.ListN.{length}
use Rattle.format.specs.Tidy.{field_text}
use Rattle.add_lines.proofs.Lines.{linking-some, linking-none}
use Rattle.add_lines.proofs.linking_len.Goals as goal

pub returns-then-linked : goal.returns-then-linked
unfolding field_text
returns-then-linked c = omega (arith, ap length (linking-some c.args.linked c.args.id.now c.if-linked.true))

pub returns : goal.returns
returns c = sym (ap length (linking-none c.args.linked c.args.id.now c.if-linked.false))
