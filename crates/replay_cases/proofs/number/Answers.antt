-- `replay_cases::number` meets its contract: nine digits and one more fit, and the digits ahead decide. Assumes nothing.
use Prim.Native.Nat.{◌+◌, ◌*◌, ◌%◌}
use mathlib.Core.Path.{sym, ap, ◌∙◌}
use native.Mathlib.Omega.{arith}
use lib.ListN.{drop}
use Rattle.replay_cases.specs.Cases.{number_from}
use Rattle.replay_cases.proofs.Digits.{number-turn, number-ends}
use Rattle.replay_cases.proofs.number.Goals as goal

pub loop-b-preserved : goal.loop-b-preserved
loop-b-preserved c =
    let s = c.args.s.now in
    let l = c.loop-b in
    (omega arith, l.invariant.1 ∙ number-turn l.n s l.b-index (omega arith) ∙ ap (λ d. number_from (l.n % 1000000000 * 10 + d) (drop (l.b-index + 1) s)) (sym c.digit.ensures.1))

pub returns : goal.returns
returns c =
    let l = c.loop-b in
    (omega arith, sym (l.invariant.1 ∙ number-ends l.n c.args.s.now l.b-index (omega arith)))
