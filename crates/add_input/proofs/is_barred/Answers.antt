-- `add_input::is_barred` meets its contract: the tag is ID, or else it is looked for. Assumes nothing.
use mathlib.Core.Path.{sym, ap, ◌∙◌}
use mathlib.Core.Bool.{◌||◌}
use Rattle.record_tags.specs.Occurs.{occurs}
use Rattle.add_input.proofs.is_barred.Goals as goal

pub returns-then-is_key : goal.returns-then-is_key
returns-then-is_key c =
    let a = c.args in
    sym (ap (λ t. t || occurs a.a a.b a.src.now) (sym c.is_key.ensures ∙ c.if-is_key.true))

pub returns : goal.returns
returns c =
    let a = c.args in
    c.occurs.ensures ∙ sym (ap (λ t. t || occurs a.a a.b a.src.now) (sym c.is_key.ensures ∙ c.if-is_key.false))
