-- `calls::count` meets its contract: reading, 21, then 25 outside 1 to 5, then the entries are counted.
use mathlib.Core.Path.{sym, ap, ◌∙◌}
use Rattle.std.specs.Prelude.{Ok}
use Rattle.std.proofs.lemmas.Result.{err_from_is_err_and}
use Rattle.calls.specs.Answers.{count_of}
use Rattle.read.proofs.Fresh.{refused-by, fresh-by}
use Rattle.calls.proofs.OwnCatalogue.{count-refused, count-below, count-above, count-served}
use Rattle.calls.proofs.count.Goals as goal

pub returns-in_err-check : goal.returns-in_err-check
unfolding count_of
returns-in_err-check c =
    let a = c.args in
    let r = c.in_err-check.field-0.0 in
    let p = err_from_is_err_and c.from_residual.result c.from_residual.ensures.1 in
    rw (p.1, p.2) (sym (ap count_of (count-refused a.text.now a.catalogue.now r.number r.line.0 (refused-by a.text.now a.catalogue.now c.check.ensures r c.in_err-check.was) a.kind)))

pub returns-then-kind-lt1 : goal.returns-then-kind-lt1
unfolding count_of
returns-then-kind-lt1 c =
    let a = c.args in
    rw c.of_text.ensures (sym (ap count_of (count-below a.text.now a.catalogue.now (fresh-by a.text.now a.catalogue.now c.check.ensures c.in_ok-check.was) a.kind c.if-kind-lt1.true)))

pub returns-then-kind-gt5 : goal.returns-then-kind-gt5
unfolding count_of
returns-then-kind-gt5 c =
    let a = c.args in
    rw c.of_text-then-kind-gt5.ensures (sym (ap count_of (count-above a.text.now a.catalogue.now (fresh-by a.text.now a.catalogue.now c.check.ensures c.in_ok-check.was) a.kind c.if-kind-gt5.true)))

pub returns : goal.returns
unfolding count_of
returns c =
    let a = c.args in
    ap Ok c.count_kind.ensures ∙ sym (ap count_of (count-served a.text.now a.catalogue.now (fresh-by a.text.now a.catalogue.now c.check.ensures c.in_ok-check.was) a.kind c.if-kind-lt1.false c.if-kind-gt5.false))
