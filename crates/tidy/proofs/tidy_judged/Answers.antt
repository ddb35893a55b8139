-- `tidy::tidy_judged` meets its contract: the text has been judged, then its tidy text is written.
use mathlib.Core.Path.{◌≡◌, sym, ap, ◌∙◌}
use mathlib.Core.Bool.{true}
use lib.ListN.{length}
use Rattle.std.proofs.lemmas.Result.{err_from_is_err_and}
use Rattle.format.specs.Reading.{read_text}
use Rattle.format.specs.Calls.{tidying}
use Rattle.accepted.specs.Read.{is_accepted}
use Rattle.read.specs.Answers.{answer_of, output_of}
use Rattle.read_judge.proofs.Whole.{Told, text-refused, text-accepted}
use Rattle.read.proofs.AnswerCases.{refused-answer}
use Rattle.tidy.proofs.Writing.{tidy-refused, tidy-accepted}
use Rattle.tidy.proofs.tidy_judged.Goals as goal
use Rattle.tidy.proofs.tidy_judged.Goals.{In_ok-accepted}

-- the text is accepted
told : (c : In_ok-accepted) → Told c.args.text.now c.in_ok-accepted.accepted
told c = text-accepted c.args.text.now c.in_ok-accepted.accepted (sym c.requires ∙ c.in_ok-accepted.was)

accepted : (c : In_ok-accepted) → is_accepted (read_text c.args.text.now) ≡ true
unfolding is_accepted
accepted c = ap is_accepted (told c).reads

pub returns-in_err-accepted : goal.returns-in_err-accepted
returns-in_err-accepted c =
    let t = c.args.text.now in
    let room = length c.args.out.now in
    let r = c.in_err-accepted.field-0.0 in
    let p = err_from_is_err_and c.from_residual.result c.from_residual.ensures.1 in
    let told = refused-answer (tidying t room) c.args.out.now r (tidy-refused t room r.number r.line.0 (text-refused t r (sym c.requires ∙ c.in_err-accepted.was))) in
    record { answer = rw (p.1, p.2) told.0; wrote = told.1 }

pub write_accepted-requires : goal.write_accepted-requires
write_accepted-requires c =
    let k = (goal.at.write_accepted-requires c).In_ok-accepted in record {
      text_value = accepted k;
      reads_by = (told k).rule;
    }

pub returns : goal.returns
returns c =
    let a = c.args in
    let e = sym (tidy-accepted a.text.now (length a.out.now) (accepted (goal.at.returns c).In_ok-accepted)) in record {
      answer = c.write_accepted.ensures.answer ∙ ap answer_of e;
      wrote = c.write_accepted.ensures.wrote ∙ ap (λ x. output_of x a.out.now) e;
    }
