-- `decimal::read_up_to` meets its contract: what the whole asks is what the rest asks after the number read so far. Assumes nothing.
-- Whether a byte is a digit follows from what `is_ascii_digit` says of the byte that it was asked of, whatever term that is: of another byte it does not follow.
use Prim.Native.Nat.{suc}
use mathlib.Core.Path.{◌≡◌, refl, sym, ap, ◌∙◌}
use mathlib.Core.Logic.{⊎_elim}
use native.Mathlib.Omega.{arith}
use Rattle.decimal.specs.Number.{number_at_front}
use Rattle.decimal.proofs.Front.{done, done_none, done-is, digit-yes, digit_low, digit-high, front-start, turn, turn_end, turn-stop, turn-large}
use Rattle.decimal.proofs.read_up_to.Goals as goal
use Rattle.decimal.proofs.read_up_to.Goals.{Left-loop-b, else-loop-b-test, then-loop-b-test+then-not-is_ascii_digit}

pub loop-b-init : goal.loop-b-init
loop-b-init c = (refl, omega arith, front-start _ _)

pub returns-then-tenth-value : goal.returns-then-tenth-value
returns-then-tenth-value c =
    let l = c.loop-b in
    let d = c.if-not-is_ascii_digit.ensures.cases in
    sym (l.invariant.2 ∙ turn-large _ _ _ _ (omega arith) (rw l.invariant.0 (digit-yes _ (omega (arith, d.0)) (omega (arith, d.1)))) (omega arith))

pub returns-then-max-tens : goal.returns-then-max-tens
returns-then-max-tens c =
    let l = c.loop-b in
    let d = c.if-not-is_ascii_digit.ensures.cases in
    sym (l.invariant.2 ∙ turn-large _ _ _ _ (omega arith) (rw l.invariant.0 (digit-yes _ (omega (arith, d.0)) (omega (arith, d.1)))) (rw l.invariant.0 (omega arith)))

pub loop-b-preserved : goal.loop-b-preserved
loop-b-preserved c =
    let l = c.loop-b in
    let d = c.if-not-is_ascii_digit.ensures.cases in
    (omega arith, omega arith, l.invariant.2 ∙ rw l.invariant.0 (turn _ _ _ _ (omega arith) (digit-yes _ (omega (arith, d.0)) (omega (arith, d.1)))))

-- read to the end, or to a byte that is no digit
left : (c : Left-loop-b)
    → number_at_front (suc c.args.max) c.args.s.now
    ≡ done (suc c.args.max) c.loop-b.value c.loop-b.len
left c =
    let l = c.loop-b in
    elim c.loop-b-test.branch [
      | else-loop-b-test w ↦ l.invariant.2 ∙ turn_end _ _ _ _ (omega (arith, w.loop-b-test.false))
      | then-loop-b-test+then-not-is_ascii_digit w ↦
          l.invariant.2
          ∙ turn-stop _ _ _ _ (omega (arith, w.loop-b-test.true))
          (rw l.invariant.0 (⊎_elim (λ h. digit_low _ (omega (arith, h))) (λ h. digit-high _ (omega (arith, h))) w.if-not-is_ascii_digit.ensures.cases))
    ]

pub returns-then-len-eq0 : goal.returns-then-len-eq0
returns-then-len-eq0 c = sym (left (goal.at.returns-then-len-eq0 c).Left-loop-b ∙ ap (done _ _) c.if-len-eq0.true ∙ done_none _ _)

pub returns : goal.returns
returns c = sym (left (goal.at.returns c).Left-loop-b ∙ done-is _ _ _ (omega arith) (omega arith))
