-- `read::check` meets its contract: the check, without the rule.
use mathlib.Core.Path.{ap, ◌∙◌}
use Rattle.std.proofs.lemmas.Result.{err_from_is_err_and}
use Rattle.format.specs.Calls.{fresh}
use Rattle.accepted_rule.specs.Rule.{is_once}
use Rattle.read.specs.Answers.{without_rule}
use Rattle.read.proofs.Fresh.{without-rule}
use Rattle.read.proofs.check.Goals as goal

pub returns-in_err-check_text : goal.returns-in_err-check_text
unfolding without_rule
returns-in_err-check_text c =
    let a = c.args in
    let p = err_from_is_err_and c.from_residual.result c.from_residual.ensures.1 in
    rw (p.1, p.2) (ap without_rule c.in_err-check_text.ensures ∙ without-rule (is_once a.text.now) (fresh a.text.now a.catalogue.now))

pub returns : goal.returns
unfolding without_rule
returns c =
    let a = c.args in
    ap without_rule c.in_ok-check_text.ensures ∙ without-rule (is_once a.text.now) (fresh a.text.now a.catalogue.now)
