-- `replay_cases::word_start` meets its contract: the words ahead decide. Assumes nothing.
use Prim.Native.Nat.{ℕ, ◌+◌, ◌≤◌, ◌-◌}
use mathlib.Core.Path.{◌≡◌, sym, ap, ap₂, ◌∙◌}
use native.Mathlib.Omega.{arith}
use lib.ListN.{length, drop, drop_of_length-le, length-drop}
use lib.Seq.{drop-drop}
use Rattle.byte_slices.specs.Upto.{upto}
use Rattle.replay_cases.specs.Cases.{from_word}
use Rattle.replay_cases.proofs.Words.{words-end, words-turn}
use Rattle.replay_cases.proofs.word_start.Goals as goal

pub returns-then-at-line : goal.returns-then-at-line
returns-then-at-line c =
    let line = c.args.line.now in
    let l = c.loop in
    let rest = drop l.at line in
    let past : length line ≤ c.until-at.result = omega arith in
    let last : length rest ≤ upto 32 rest = omega (arith, length-drop l.at line, c.until-at.ensures.2) in
    (omega arith, drop_of_length-le line past ∙ sym (l.invariant.1 ∙ words-end rest (c.args.k - l.counter) (omega arith) last))

pub loop-preserved : goal.loop-preserved
loop-preserved c =
    let line = c.args.line.now in
    let l = c.loop in
    let at : ℕ = l.at in
    let rest = drop at line in
    let left : ℕ = c.args.k - l.counter in
    let fewer : left - 1 ≡ c.args.k - (l.counter + 1) = omega arith in
    let next : at + (upto 32 rest + 1) ≡ c.until-at.result + 1 = omega (arith, c.until-at.ensures.2) in (
      omega arith,
      l.invariant.1 ∙ words-turn rest left (omega arith)
          ∙ ap₂ (λ n s. from_word n s) fewer (drop-drop (upto 32 rest + 1) at line ∙ ap (λ n. drop n line) next),
    )

pub returns : goal.returns
unfolding from_word
returns c =
    let l = c.loop in
    let none : c.args.k - l.counter ≡ 0 = omega arith in
    (omega arith, sym (l.invariant.1 ∙ ap (λ n. from_word n (drop l.at c.args.line.now)) none))
