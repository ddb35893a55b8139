-- `read::read_judged` meets its contract: the text has been judged, then the catalogue is measured, then written.
use mathlib.Core.Path.{sym, ◌∙◌}
use native.Mathlib.Omega.{arith}
use lib.ListN.{length}
use Rattle.std.proofs.lemmas.Result.{err_from_is_err_and}
use Rattle.format.specs.Catalogue.{catalogue}
use Rattle.format.specs.Calls.{reading}
use Rattle.accepted.specs.Read.{records_of}
use Rattle.read_judge.proofs.Whole.{Told, text-refused, text-accepted}
use Rattle.read.proofs.AnswerCases.{read-refused, read_short, read_fits, refused-answer, written-answer}
use Rattle.read.proofs.read_judged.Goals as goal
use Rattle.read.proofs.read_judged.Goals.{In_ok-size}

-- the text is accepted
accepted : (c : In_ok-size) → Told c.args.text.now c.in_ok-size.field-0
accepted c = text-accepted c.args.text.now c.in_ok-size.field-0 (sym c.requires ∙ c.in_ok-size.was)

pub returns-in_err-size : goal.returns-in_err-size
returns-in_err-size c =
    let t = c.args.text.now in
    let room = length c.args.kept.now in
    let r = c.in_err-size.field-0.0 in
    let p = err_from_is_err_and c.from_residual.result c.from_residual.ensures.1 in
    let told = refused-answer (reading t room) c.args.kept.now r (read-refused t room r.number r.line.0 (text-refused t r (sym c.requires ∙ c.in_err-size.was))) in
    record { answer = rw (p.1, p.2) told.0; wrote = told.1 }

pub returns-then-kept-size : goal.returns-then-kept-size
returns-then-kept-size c =
    let t = c.args.text.now in
    let room = length c.args.kept.now in
    let k = accepted (goal.at.returns-then-kept-size c).In_ok-size in
    let told = refused-answer (reading t room) c.args.kept.now (record { number = 20; line = record { 0 = 0 } })
    (read_short t room (records_of t) k.reads (omega (arith, k.size, c.if-kept-size.true))) in
    record { answer = rw c.of_text.ensures told.0; wrote = told.1 }

pub put_catalogue-requires : goal.put_catalogue-requires
put_catalogue-requires c =
    let k = accepted (goal.at.put_catalogue-requires c).In_ok-size in record {
      accepted_text = record { rule = k.rule; reads = k.reads };
      text_in_bounds = omega (arith, k.size, c.if-kept-size.false);
    }

pub returns : goal.returns
returns c =
    let t = c.args.text.now in
    let room = length c.args.kept.now in
    let k = accepted (goal.at.returns c).In_ok-size in
    let told = written-answer (reading t room) c.args.kept.now (catalogue (records_of t)) c.put_catalogue.new.out c.in_ok-size.field-0.size
    (read_fits t room (records_of t) k.reads (omega (arith, k.size, c.if-kept-size.false)))
    k.size c.put_catalogue.ensures in
    record { answer = told.0; wrote = told.1 }
