-- `carry_on::carry_refused` meets its contract: 1 first, then by the text's length.
use lib.ListN.{length}
use Rattle.format.specs.Carrying.{carrying}
use Rattle.carry_on.proofs.AnswerCases.{told-long, refused_all}
use Rattle.carry_on.proofs.carry_refused.Goals as goal

pub returns-then-text-gt-LONGEST : goal.returns-then-text-gt-LONGEST
returns-then-text-gt-LONGEST c =
    let a = c.args in
    let t = c.args.text.now in
    let told = refused_all (carrying t (length a.out.now) (length a.table.now)) a.out.now a.table.now (record { number = 1; line = record { 0 = 0 } })
    (told-long t (length a.out.now) (length a.table.now) c.if-text-gt-LONGEST.true) in
    record { answer = rw c.of_text.ensures told.0; wrote = told.1.0; listed = told.1.1 }
