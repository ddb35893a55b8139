-- `add_input::is_value` meets its contract: what is taken up to a tab is a value, and is all of it.
use mathlib.Core.Path.{sym, ◌∙◌}
use Rattle.add_input.proofs.Value.{value-wrong, value_taken}
use Rattle.add_input.proofs.is_value.Goals as goal

pub returns-then-len-eq0 : goal.returns-then-len-eq0
returns-then-len-eq0 c =
    sym (value-wrong c.args.src.now (sym c.value_len-len.ensures ∙ c.if-len-eq0.true))

pub returns : goal.returns
returns c =
    value_taken c.args.src.now c.value_len-len.result c.value_len-len.ensures c.if-len-eq0.false
