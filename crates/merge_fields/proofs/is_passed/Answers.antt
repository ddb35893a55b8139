-- `merge_fields::is_passed` meets its contract.
use mathlib.Core.Path.{sym, ap, ◌∙◌}
use mathlib.Core.Bool.{◌&&◌, ◌||◌}
use lib.Dec.{eqb}
use Rattle.merge_fields.specs.Kept.{is_passed}
use Rattle.merge_fields.proofs.is_passed.Goals as goal

pub returns-then-is_same_tag : goal.returns-then-is_same_tag
unfolding is_passed
returns-then-is_same_tag c =
    let a = c.args in
    sym (ap (λ b. b || (eqb a.a 80 && eqb a.b 80)) (sym c.is_same_tag.ensures ∙ c.if-is_same_tag.true))

pub returns : goal.returns
unfolding is_passed
returns c =
    let a = c.args in
    c.is_same_tag-2.ensures ∙ sym (ap (λ b. b || (eqb a.a 80 && eqb a.b 80)) (sym c.is_same_tag.ensures ∙ c.if-is_same_tag.false))
