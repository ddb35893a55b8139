-- `binary_len::pass_references` meets its contract: the references still to pass decide, in these bytes and in any longer ones.
use Prim.Native.Nat.{◌+◌, ◌-◌}
use mathlib.Core.Path.{◌≡◌, sym, ap, ◌∙◌}
use mathlib.Core.List.{◌++◌}
use native.Mathlib.Omega.{arith}
use Rattle.std.specs.Prelude.{Ok}
use Rattle.std.proofs.lemmas.Result.{err_from_is_err_and}
use Rattle.binary_len.specs.BinaryLen.{references_at, onward}
use Rattle.binary_len.proofs.PartByPart.{references-on, reference-within}
use Rattle.binary_len.specs.Step.{told, Resumes}
use Rattle.binary_len.proofs.Resume.{passed-longer, from-here}
use Rattle.binary_len.proofs.pass_references.Goals as goal

pub loop-passed-init : goal.loop-passed-init
loop-passed-init c =
    let s = c.args.bytes.now in
    let z : c.args.count ≡ c.args.count - 0 = omega arith in
    (omega arith, ap (references_at s c.args.start) z, λ rest. ap (references_at (s ++ rest) c.args.start) z)

pub returns-in_err-next-clause-answer : goal.returns-in_err-next-clause-answer
unfolding told onward
returns-in_err-next-clause-answer c =
    let s = c.args.bytes.now in
    let left = c.args.count - c.loop-passed.passed in
    let p = err_from_is_err_and c.from_residual.result c.from_residual.ensures.1 in
    rw (p.1, p.2)
    (sym
    (c.loop-passed.invariant.1 ∙ references-on s c.loop-passed.at left (omega arith)
    ∙ ap (λ a. onward a (λ next. references_at s next (left - 1))) (sym c.in_err-next.ensures)))

pub returns-in_err-next-clause-resumes : goal.returns-in_err-next-clause-resumes
unfolding Resumes
returns-in_err-next-clause-resumes c =
    let p = err_from_is_err_and c.from_residual.result c.from_residual.ensures.1 in
    rw p.1 tt

pub returns-in-More-clause-answer : goal.returns-in-More-clause-answer
unfolding told onward
returns-in-More-clause-answer c =
    let s = c.args.bytes.now in
    let left = c.args.count - c.loop-passed.passed in
    sym
    (c.loop-passed.invariant.1 ∙ references-on s c.loop-passed.at left (omega arith)
    ∙ ap (λ a. onward a (λ next. references_at s next (left - 1))) (sym c.in_ok-next.ensures ∙ ap Ok c.in-More.is))

pub returns-in-More-clause-resumes : goal.returns-in-More-clause-resumes
unfolding Resumes
returns-in-More-clause-resumes c =
    λ rest. from-here c.loop-passed.at (c.args.count - c.loop-passed.passed) c.args.bytes.now rest c.loop-passed.invariant.0 ∙ sym (c.loop-passed.invariant.2 rest)

pub loop-passed-preserved : goal.loop-passed-preserved
unfolding onward
loop-passed-preserved c =
    let s = c.args.bytes.now in
    let at = c.loop-passed.at in
    let next = c.in-Whole.next in
    let left = c.args.count - c.loop-passed.passed in
    let e = sym c.in_ok-next.ensures ∙ ap Ok c.in-Whole.is in
    let z : left - 1 ≡ c.args.count - (c.loop-passed.passed + 1) = omega arith in (
      reference-within s at next e,
      c.loop-passed.invariant.1 ∙ references-on s at left (omega arith)
          ∙ ap (λ a. onward a (λ n. references_at s n (left - 1))) e
          ∙ ap (references_at s next) z,
      λ rest. c.loop-passed.invariant.2 rest ∙ passed-longer s at left next (omega arith) e rest ∙ ap (references_at (s ++ rest) next) z,
    )

pub returns-clause-answer : goal.returns-clause-answer
unfolding told references_at
returns-clause-answer c =
    let z : c.args.count - c.loop-passed.passed ≡ 0 = omega arith in
    sym (c.loop-passed.invariant.1 ∙ ap (references_at c.args.bytes.now c.loop-passed.at) z)

pub returns-clause-resumes : goal.returns-clause-resumes
unfolding Resumes
returns-clause-resumes c = tt
