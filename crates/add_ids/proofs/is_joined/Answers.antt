-- `add_ids::is_joined` meets its contract: another length, another byte for the `-` and another front decide, and then what is left.
use mathlib.Core.Path.{sym, ◌∙◌}
use native.Mathlib.Omega.{arith}
use Rattle.add_ids.proofs.Joined.{joined-other, joined-dash, joined-front, joined-rest}
use Rattle.add_ids.proofs.is_joined.Goals as goal

pub returns-then-id-dash : goal.returns-then-id-dash
returns-then-id-dash c = sym (joined-other _ _ _ (λ e. omega (arith, c.if-id-dash.true)))

pub returns-then-id-dash-2 : goal.returns-then-id-dash-2
returns-then-id-dash-2 c = sym (joined-other _ _ _ (λ e. c.if-id-dash-2.true (omega (arith, e))))

pub returns-then-id-dash-ne45 : goal.returns-then-id-dash-ne45
returns-then-id-dash-ne45 c =
    let a = c.args in
    sym (joined-dash a.prefix.now a.other.now a.id.now c.if-id-dash.false c.if-id-dash-ne45.true)

pub returns-then-not-starts : goal.returns-then-not-starts
returns-then-not-starts c =
    let a = c.args in
    sym (joined-front a.prefix.now a.other.now a.id.now c.if-id-dash.false (sym c.starts.ensures ∙ c.if-not-starts.true))

pub returns : goal.returns
returns c =
    let a = c.args in
    c.same.ensures
    ∙ sym (joined-rest a.prefix.now a.other.now a.id.now c.if-id-dash.false (sym c.starts.ensures ∙ c.if-not-starts.false) c.if-id-dash-ne45.false)
