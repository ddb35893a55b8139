-- `binary_len::without_cursor` meets its contract.
use mathlib.Core.Path.{sym, ap, ◌∙◌}
use Rattle.std.specs.Prelude.{Ok}
use Rattle.std.proofs.lemmas.Result.{err_from_is_err_and}
use Rattle.binary_len.specs.Step.{told}
use Rattle.binary_len.proofs.without_cursor.Goals as goal

pub returns-in_err-n : goal.returns-in_err-n
unfolding told
returns-in_err-n c =
    let p = err_from_is_err_and c.from_residual.result c.from_residual.ensures.1 in
    rw (p.1, p.2) (sym (ap told c.in_err-n.was))

pub returns-in-Whole : goal.returns-in-Whole
unfolding told
returns-in-Whole c = sym (ap told (c.in_ok-n.was ∙ ap Ok c.in-Whole.is))

pub returns-in-More : goal.returns-in-More
unfolding told
returns-in-More c = sym (ap told (c.in_ok-n.was ∙ ap Ok c.in-More.is))
