-- `faults::faults` meets its contract: 1 first, then by the text's length.
use lib.ListN.{length}
use Rattle.format.specs.Faults.{faulting}
use Rattle.faults.proofs.AnswerCases.{told-long, refused_all}
use Rattle.faults.proofs.faults.Goals as goal

pub returns-then-text-gt-LONGEST : goal.returns-then-text-gt-LONGEST
returns-then-text-gt-LONGEST c =
    let a = c.args in
    let t = c.args.text.now in
    let told = refused_all (faulting t (length a.table.now)) a.table.now (record { number = 1; line = record { 0 = 0 } }) (told-long t (length a.table.now) c.if-text-gt-LONGEST.true) in
    record { answer = rw c.of_text.ensures told.0; listed = told.1 }
