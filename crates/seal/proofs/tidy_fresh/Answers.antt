-- `seal::tidy_fresh` meets its contract: the check of the catalogue, then the tidy text.
use mathlib.Core.Path.{◌≡◌, sym, ap, ◌∙◌}
use mathlib.Core.Bool.{true}
use lib.ListN.{length}
use Rattle.std.proofs.lemmas.Result.{err_from_is_err_and}
use Rattle.format.specs.Reading.{read_text}
use Rattle.format.specs.Calls.{tidying}
use Rattle.accepted.specs.Read.{is_accepted}
use Rattle.read.specs.Answers.{answer_of, output_of}
use Rattle.read.proofs.AnswerCases.{refused-answer}
use Rattle.read.proofs.Fresh.{Current, text-refused-by, text-fresh-by, rule-by, goes_on, stops}
use Rattle.tidy.specs.Written.{writing_tidy}
use Rattle.tidy.proofs.Writing.{tidy-accepted}
use Rattle.format.specs.Seal.{tidying_fresh}
use Rattle.seal.proofs.tidy_fresh.Goals as goal
use Rattle.seal.proofs.tidy_fresh.Goals.{In_ok-once}

-- the catalogue is the text's own
own : (k : In_ok-once) → let a = k.args in Current a.text.now a.catalogue.now
own k = let a = k.args in text-fresh-by a.text.now a.catalogue.now k.check_text.ensures k.in_ok-once.once k.in_ok-once.was

accepted : (k : In_ok-once) → is_accepted (read_text k.args.text.now) ≡ true
unfolding is_accepted
accepted k = ap is_accepted (own k).reads

pub write_accepted-requires : goal.write_accepted-requires
write_accepted-requires c =
    let a = c.args in record {
      text_value = accepted (goal.at.write_accepted-requires c).In_ok-once;
      reads_by = rule-by a.text.now a.catalogue.now c.check_text.ensures c.in_ok-once.once c.in_ok-once.was;
    }

pub returns-in_err-once : goal.returns-in_err-once
unfolding tidying_fresh
returns-in_err-once c =
    let a = c.args in
    let room = length a.work.now in
    let r = c.in_err-once.field-0.0 in
    let p = err_from_is_err_and c.from_residual.result c.from_residual.ensures.1 in
    let told = refused-answer (tidying_fresh a.text.now a.catalogue.now room) a.work.now r
    (stops a.text.now a.catalogue.now (λ rs. tidying a.text.now room) r.number r.line.0
    (text-refused-by a.text.now a.catalogue.now c.check_text.ensures r c.in_err-once.was)) in
    record { answer = rw (p.1, p.2) told.0; wrote = told.1 }

pub returns : goal.returns
unfolding tidying_fresh
returns c =
    let a = c.args in
    let room = length a.work.now in
    let e : writing_tidy a.text.now room ≡ tidying_fresh a.text.now a.catalogue.now room =
    sym (goes_on a.text.now a.catalogue.now (λ rs. tidying a.text.now room) (own (goal.at.returns c).In_ok-once) ∙ tidy-accepted a.text.now room (accepted (goal.at.returns c).In_ok-once)) in record {
      answer = c.write_accepted.ensures.answer ∙ ap answer_of e;
      wrote = c.write_accepted.ensures.wrote ∙ ap (λ x. output_of x a.work.now) e;
    }
