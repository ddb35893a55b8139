-- `read::check_with` meets its contract: judged by the work area, and checked as any text that has been judged.
use mathlib.Core.Path.{ap, ◌∙◌}
use Rattle.std.proofs.lemmas.Result.{err_from_is_err_and}
use Rattle.format.specs.Calls.{fresh}
use Rattle.accepted_rule.specs.Rule.{is_once}
use Rattle.read.specs.Answers.{without_rule}
use Rattle.read.proofs.Fresh.{without-rule}
use Rattle.read.proofs.check_with.Goals as goal

pub returns-in_err-check_judged-clause-checked : goal.returns-in_err-check_judged-clause-checked
unfolding without_rule
returns-in_err-check_judged-clause-checked c =
    let a = c.args in
    let p = err_from_is_err_and c.from_residual.result c.from_residual.ensures.1 in
    rw (p.1, p.2) (ap without_rule c.in_err-check_judged.ensures ∙ without-rule (is_once a.text.now) (fresh a.text.now a.catalogue.now))

pub returns-clause-checked : goal.returns-clause-checked
unfolding without_rule
returns-clause-checked c =
    let a = c.args in
    ap without_rule c.in_ok-check_judged.ensures ∙ without-rule (is_once a.text.now) (fresh a.text.now a.catalogue.now)
