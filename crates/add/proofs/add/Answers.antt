-- `add::add` meets its contract: the check of the catalogue, then what is added to a text that is fresh.
use lib.ListN.{length}
use Rattle.std.proofs.lemmas.Result.{err_from_is_err_and}
use Rattle.format.specs.Calls.{adding}
use Rattle.read.proofs.AnswerCases.{refused-answer}
use Rattle.read.proofs.Fresh.{text-refused-by, text-fresh-by, rule-by}
use Rattle.add.proofs.Adding.{add-refused}
use Rattle.add.proofs.add.Goals as goal

pub returns-in_err-once : goal.returns-in_err-once
returns-in_err-once c =
    let a = c.args in
    let room = length a.out.now in
    let r = c.in_err-once.field-0.0 in
    let p = err_from_is_err_and c.from_residual.result c.from_residual.ensures.1 in
    let told = refused-answer (adding a.text.now a.catalogue.now a.prefix.now a.fields.now room) a.out.now r
    (add-refused a.text.now a.catalogue.now a.prefix.now a.fields.now room r.number r.line.0 (text-refused-by a.text.now a.catalogue.now c.check_text.ensures r c.in_err-once.was)) in
    record { answer = rw (p.1, p.2) told.0; wrote = told.1 }

pub add_fresh-requires : goal.add_fresh-requires
add_fresh-requires c =
    let a = c.args in
    let t = c.args.text.now in record {
      catalogue_value = (text-fresh-by t a.catalogue.now c.check_text.ensures c.in_ok-once.once c.in_ok-once.was).says;
      reads_by = rule-by t a.catalogue.now c.check_text.ensures c.in_ok-once.once c.in_ok-once.was;
    }
