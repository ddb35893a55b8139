-- `programs::put_ordinals` meets its contract: 20, or the ordinals are copied to the front.
use mathlib.Core.Path.{sym, ap, ◌∙◌}
use mathlib.Core.List.{◌++◌}
use lib.ListN.{length, drop}
use Rattle.format.specs.Calls.{fitting}
use Rattle.read.specs.Answers.{answer_of, output_of}
use Rattle.read.proofs.AnswerCases.{too_short, fits, refused-answer}
use Rattle.programs.proofs.put_ordinals.Goals as goal

pub returns-then-out-from : goal.returns-then-out-from
returns-then-out-from c =
    let a = c.args in
    let room = length a.out.now in
    let told = refused-answer (fitting room a.from.now) a.out.now (record { number = 20; line = record { 0 = 0 } }) (too_short room a.from.now c.if-out-from.true) in
    record { answer = rw c.of_text.ensures told.0; wrote = told.1 }

pub returns : goal.returns
unfolding answer_of output_of
returns c =
    let a = c.args in
    let fit = fits (length a.out.now) a.from.now c.if-out-from.false in
    record {
      answer = sym (ap answer_of fit);
      wrote = ap (λ xs. xs ++ drop (length a.from.now) a.out.now) c.copy_from_slice.ensures.after ∙ sym (ap (λ x. output_of x a.out.now) fit);
    }
