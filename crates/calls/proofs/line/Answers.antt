-- `calls::line` meets its contract: reading, 21, then 25 where the catalogue has no such record.
use mathlib.Core.Path.{sym, ap, ◌∙◌}
use Rattle.std.specs.Prelude.{ok_or}
use Rattle.std.proofs.lemmas.Result.{err_from_is_err_and}
use Rattle.calls.specs.Answers.{line_answer_of}
use Rattle.read.proofs.Fresh.{refused-by, fresh-by}
use Rattle.calls.proofs.OwnCatalogue.{missing, line_refused, line-served}
use Rattle.calls.proofs.line.Goals as goal

pub returns-in_err-check : goal.returns-in_err-check
unfolding line_answer_of
returns-in_err-check c =
    let a = c.args in
    let r = c.in_err-check.field-0.0 in
    let p = err_from_is_err_and c.from_residual.result c.from_residual.ensures.1 in
    rw (p.1, p.2) (sym (ap line_answer_of (line_refused a.text.now a.catalogue.now r.number r.line.0 (refused-by a.text.now a.catalogue.now c.check.ensures r c.in_err-check.was) a.kind a.ordinal)))

pub returns : goal.returns
returns c =
    let a = c.args in
    c.ok_or.ensures.value ∙ rw c.of_text.ensures (ap (λ o. ok_or o missing) c.find_line.ensures.is) ∙ line-served a.text.now a.catalogue.now (fresh-by a.text.now a.catalogue.now c.check.ensures c.in_ok-check.was) a.kind a.ordinal
