-- `carry_on::carry_accepted` meets its contract: what tidying writes, and no row.
use Rattle.std.proofs.lemmas.Result.{err_from_is_err_and}
use Rattle.carry_on.proofs.Accepted.{Leaves, refused-accepted, written-accepted}
use Rattle.carry_on.proofs.carry_accepted.Goals as goal

pub returns-in_err-size : goal.returns-in_err-size
unfolding Leaves
returns-in_err-size c =
    let p = err_from_is_err_and c.from_residual.result c.from_residual.ensures.1 in
    let told = refused-accepted c.args.text.now c.args.out.now c.args.table.now c.write_accepted.new.out c.requires.text_value c.in_err-size.field-0.0
    c.in_err-size.ensures.answer c.in_err-size.ensures.wrote in
    record { answer = rw (p.1, p.2) told.0; wrote = told.1.0; listed = told.1.1 }

pub returns : goal.returns
unfolding Leaves
returns c =
    let told = written-accepted c.args.text.now c.args.out.now c.args.table.now c.write_accepted.new.out c.requires.text_value c.in_ok-size.size
    c.in_ok-size.ensures.answer c.in_ok-size.ensures.wrote in
    record { answer = told.0; wrote = told.1.0; listed = told.1.1 }
