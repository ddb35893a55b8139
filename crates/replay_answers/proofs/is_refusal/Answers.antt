-- `replay_answers::is_refusal` meets its contract: word by word, and there is none after the last.
use Prim.Native.Nat.{◌+◌}
use mathlib.Core.Path.{◌≡◌, sym, ap, ◌∙◌}
use mathlib.Core.Bool.{Bool, cond, true, false}
use mathlib.Core.List.{[], ◌∷◌}
use lib.ListN.{length}
use lib.Dec.{eqb}
use borrow.Author.Tests.{not-true, not-false}
use Rattle.format.specs.Bytes.{same, none?}
use Rattle.format.specs.Decimal.{written}
use Rattle.replay_cases.specs.Cases.{word_in}
use Rattle.replay_answers.specs.Answers.{word_is, refusal_is}
use Rattle.replay_answers.proofs.Hex.{empty}
use Rattle.replay_answers.proofs.is_refusal.Goals as goal
use Rattle.replay_answers.proofs.is_refusal.Goals.{After-is_number, After-is_number-2, After-same, Start}

-- each word is compared
first : (p : After-same) → (let a = p.args in p.same.result ≡ word_is a.line.now a.at (114 ∷ 101 ∷ 102 ∷ 117 ∷ 115 ∷ 101 ∷ 100 ∷ []))
unfolding word_is
first p = p.same.ensures ∙ ap (λ x. same x (114 ∷ 101 ∷ 102 ∷ 117 ∷ 115 ∷ 101 ∷ 100 ∷ [])) p.word.ensures.value

second : (q : After-is_number) → (let a = q.args in q.is_number.result ≡ word_is a.line.now (a.at + 1) (written a.n))
unfolding word_is
second q = let a = q.args in q.is_number.ensures ∙ ap (λ x. same x (written a.n)) q.word-2.ensures.value

third : (r : After-is_number-2)
    → (let a = r.args in r.is_number-2.result ≡ word_is a.line.now (a.at + 2) (written a.no.0))
unfolding word_is
third r =
    let a = r.args in
    r.is_number-2.ensures ∙ ap (λ x. same x (written a.no.0)) r.word-3.ensures.value

-- a word that differs decides, and one that does not leaves the rest
differs : (b t : Bool) → b ≡ false → false ≡ cond b t false
differs b t e = sym (ap (λ x. cond x t false) e)

agrees : (b t : Bool) → b ≡ true → t ≡ cond b t false
agrees b t e = sym (ap (λ x. cond x t false) e)

-- what is left after the first word, and after the second
last : Start → Bool
last s = let a = s.args in none? (word_in (a.at + 3) a.line.now)

after-second : Start → Bool
unfolding last
after-second s = let a = s.args in cond (word_is a.line.now (a.at + 2) (written a.no.0)) (last s) false

after_first : Start → Bool
unfolding after-second
after_first s = let a = s.args in cond (word_is a.line.now (a.at + 1) (written a.n)) (after-second s) false

pub returns-then-not-same : goal.returns-then-not-same
unfolding refusal_is last after-second after_first
returns-then-not-same c = differs _ (after_first (goal.at.returns-then-not-same c).Start) (sym (first (goal.at.returns-then-not-same c).After-same) ∙ not-true c.same.result c.if-not-same.true-raw)

pub returns-then-not-is_number : goal.returns-then-not-is_number
unfolding refusal_is last after-second after_first
returns-then-not-is_number c =
    differs _ (after-second (goal.at.returns-then-not-is_number c).Start) (sym (second (goal.at.returns-then-not-is_number c).After-is_number) ∙ not-true c.is_number.result c.if-not-is_number.true-raw) ∙ agrees _ (after_first (goal.at.returns-then-not-is_number c).Start) (sym (first (goal.at.returns-then-not-is_number c).After-same) ∙ not-false c.same.result c.if-not-same.false-raw)

pub returns-then-not-is_number-2 : goal.returns-then-not-is_number-2
unfolding refusal_is last after-second after_first
returns-then-not-is_number-2 c =
    differs _ (last (goal.at.returns-then-not-is_number-2 c).Start) (sym (third (goal.at.returns-then-not-is_number-2 c).After-is_number-2) ∙ not-true c.is_number-2.result c.if-not-is_number-2.true-raw)
    ∙ agrees _ (after-second (goal.at.returns-then-not-is_number-2 c).Start) (sym (second (goal.at.returns-then-not-is_number-2 c).After-is_number) ∙ not-false c.is_number.result c.if-not-is_number.false-raw)
    ∙ agrees _ (after_first (goal.at.returns-then-not-is_number-2 c).Start) (sym (first (goal.at.returns-then-not-is_number-2 c).After-same) ∙ not-false c.same.result c.if-not-same.false-raw)

pub returns : goal.returns
unfolding refusal_is last after-second after_first
returns c =
    let a = c.args in
    ap (λ s. eqb (length s) 0) c.word-4.ensures.value
    ∙ empty (word_in (a.at + 3) a.line.now)
    ∙ agrees _ (last (goal.at.returns c).Start) (sym (third (goal.at.returns c).After-is_number-2) ∙ not-false c.is_number-2.result c.if-not-is_number-2.false-raw)
    ∙ agrees _ (after-second (goal.at.returns c).Start) (sym (second (goal.at.returns c).After-is_number) ∙ not-false c.is_number.result c.if-not-is_number.false-raw)
    ∙ agrees _ (after_first (goal.at.returns c).Start) (sym (first (goal.at.returns c).After-same) ∙ not-false c.same.result c.if-not-same.false-raw)
