-- `replay_answers::is_ok` meets its contract: the word is `ok`, and there is none after the last.
use Prim.Native.Nat.{◌+◌}
use mathlib.Core.Path.{◌≡◌, sym, ap, ◌∙◌}
use mathlib.Core.Bool.{cond, false}
use mathlib.Core.List.{[], ◌∷◌}
use lib.ListN.{length}
use lib.Dec.{eqb}
use borrow.Author.Tests.{not-true, not-false}
use Rattle.format.specs.Bytes.{same, none?}
use Rattle.replay_cases.specs.Cases.{word_in}
use Rattle.replay_answers.specs.Answers.{word_is, ok_is}
use Rattle.replay_answers.proofs.Hex.{empty}
use Rattle.replay_answers.proofs.is_ok.Goals as goal
use Rattle.replay_answers.proofs.is_ok.Goals.{After-same}

-- the word is compared
told : (p : After-same) → (let a = p.args in p.same.result ≡ word_is a.line.now a.at (111 ∷ 107 ∷ []))
unfolding word_is
told p = p.same.ensures ∙ ap (λ x. same x (111 ∷ 107 ∷ [])) p.word.ensures.value

pub returns-then-not-same : goal.returns-then-not-same
unfolding ok_is
returns-then-not-same c =
    let a = c.args in
    sym (ap (λ t. cond t (none? (word_in (a.at + a.n + 1) a.line.now)) false) (sym (told (goal.at.returns-then-not-same c).After-same) ∙ not-true c.same.result c.if-not-same.true-raw))

pub returns : goal.returns
unfolding ok_is
returns c =
    let a = c.args in
    ap (λ s. eqb (length s) 0) c.word-2.ensures.value
    ∙ empty (word_in (a.at + a.n + 1) a.line.now)
    ∙ sym (ap (λ t. cond t (none? (word_in (a.at + a.n + 1) a.line.now)) false) (sym (told (goal.at.returns c).After-same) ∙ not-false c.same.result c.if-not-same.false-raw))
