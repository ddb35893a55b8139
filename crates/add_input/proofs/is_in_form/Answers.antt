-- `add_input::is_in_form` meets its contract: the fields are judged where the prefix is a value.
use mathlib.Core.Path.{sym, ap, ◌∙◌}
use mathlib.Core.Bool.{not, ◌||◌}
use Rattle.format.specs.Adding.{given}
use Rattle.add_input.specs.Given.{marred}
use Rattle.add_input.proofs.InForm.{misformed-marred}
use Rattle.add_input.proofs.is_in_form.Goals as goal

pub returns-then-is_value : goal.returns-then-is_value
returns-then-is_value c =
    let a = c.args in
    ap not c.is_marred.ensures
    ∙ sym (ap not (misformed-marred a.prefix.now (given a.fields.now) ∙ ap (λ t. not t || marred (given a.fields.now)) (sym c.is_value.ensures ∙ c.if-is_value.true)))

pub returns-else-is_value : goal.returns-else-is_value
returns-else-is_value c =
    let a = c.args in
    c.if-is_value.false
    ∙ sym (ap not (misformed-marred a.prefix.now (given a.fields.now) ∙ ap (λ t. not t || marred (given a.fields.now)) (sym c.is_value.ensures ∙ c.if-is_value.false)))
