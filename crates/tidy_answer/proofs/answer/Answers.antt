-- `tidy_answer::answer` meets its contract: the tidying call's answer, or the refusal of an input that is too long.
use mathlib.Core.Path.{◌≡◌, sym, ap, ◌∙◌}
use native.Mathlib.Omega.{arith}
use lib.ListN.{length}
use Rattle.format.specs.Calls.{tidying}
use Rattle.byte_slices.specs.Over.{over}
use Rattle.format.specs.Program.{refusal, said, program}
use Rattle.tidy_answer.proofs.Refusal.{refusal-fits}
use Rattle.tidy_answer.proofs.ProgramOutput.{program-long, program-taken, told-refused, told-count}
use Rattle.tidy_answer.proofs.answer.Goals as goal
use Rattle.tidy_answer.proofs.answer.Goals.{After-tidy}

pub put_refusal-requires : goal.put_refusal-requires
put_refusal-requires c = refusal-fits _ _ _ (omega arith)

pub returns-then-text-gt65535 : goal.returns-then-text-gt65535
returns-then-text-gt65535 c =
    let a = c.args in
    let e = sym (program-long a.text.now c.if-text-gt65535.true) in record {
      next = c.put_refusal.ensures.next ∙ ap (λ r. length (refusal r.number r.line.0)) c.of_text.ensures ∙ ap length e;
      wrote = c.put_refusal.ensures.wrote ∙ ap (λ r. over a.out.now 0 (refusal r.number r.line.0)) c.of_text.ensures ∙ ap (over a.out.now 0) e;
    }

pub put_refusal-requires-in-Err : goal.put_refusal-requires-in-Err
put_refusal-requires-in-Err c = refusal-fits _ _ _ (omega arith)

-- what the program writes is what the tidying call answered
taken : (c : After-tidy) → (let a = c.args in
    (program a.text.now ≡ said (tidying a.text.now (length a.out.now))))
taken c =
    let a = c.args in
    let room : 65536 ≡ length a.out.now = omega arith in
    program-taken a.text.now c.if-text-gt65535.false ∙ ap (λ k. said (tidying a.text.now k)) room

pub returns-in-Ok : goal.returns-in-Ok
returns-in-Ok c =
    let a = c.args in
    let e = sym (taken (goal.at.returns-in-Ok c).After-tidy) in
    let told = told-count (tidying a.text.now (length a.out.now)) c.in-Ok.n (sym c.tidy.ensures.answer ∙ c.in-Ok.is) in record {
      next = told.0 ∙ ap length e;
      wrote = c.tidy.ensures.wrote ∙ told.1 a.out.now ∙ ap (over a.out.now 0) e;
    }

pub returns-in-Err : goal.returns-in-Err
returns-in-Err c =
    let a = c.args in
    let told = told-refused (tidying a.text.now (length a.out.now)) c.in-Err.why (sym c.tidy.ensures.answer ∙ c.in-Err.is) in
    let e : refusal c.in-Err.why.number c.in-Err.why.line.0 ≡ program a.text.now = sym (taken (goal.at.returns-in-Err c).After-tidy ∙ told.0) in
    let kept : c.tidy.new.out ≡ a.out.now = c.tidy.ensures.wrote ∙ told.1 a.out.now in record {
      next = c.put_refusal-in-Err.ensures.next ∙ ap length e;
      wrote = c.put_refusal-in-Err.ensures.wrote ∙ ap (λ o. over o 0 (refusal c.in-Err.why.number c.in-Err.why.line.0)) kept ∙ ap (over a.out.now 0) e;
    }
