-- `read_judge::is_busy` meets its contract, case by case.
use mathlib.Core.Path.{sym, ap, ◌∙◌}
use mathlib.Core.Bool.{true, false, cond}
use lib.Dec.{eqb}
use borrow.Author.Tests.{eq-eqb, ne_eqb}
use Rattle.key_index.specs.Counting.{too_many}
use Rattle.read_judge.specs.Busy.{kept_busy}
use Rattle.read_judge.proofs.is_busy.Goals as goal

pub returns-then-seed : goal.returns-then-seed
unfolding kept_busy
returns-then-seed c =
    let a = c.args in
    sym (ap (λ b. cond b false (cond (eqb a.clash 16777218) true (too_many a.seed.keyed a.lines a.slots))) c.if-seed.true)

pub returns-then-clash-eq-GIVEN_UP : goal.returns-then-clash-eq-GIVEN_UP
unfolding kept_busy
returns-then-clash-eq-GIVEN_UP c =
    let a = c.args in
    sym (ap (λ b. cond b false (cond (eqb a.clash 16777218) true (too_many a.seed.keyed a.lines a.slots))) c.if-seed.false
    ∙ ap (λ b. cond b true (too_many a.seed.keyed a.lines a.slots)) (eq-eqb a.clash 16777218 c.if-clash-eq-GIVEN_UP.true))

pub returns : goal.returns
unfolding kept_busy
returns c =
    let a = c.args in
    c.is_busy.ensures
    ∙ sym (ap (λ b. cond b false (cond (eqb a.clash 16777218) true (too_many a.seed.keyed a.lines a.slots))) c.if-seed.false
    ∙ ap (λ b. cond b true (too_many a.seed.keyed a.lines a.slots)) (ne_eqb a.clash 16777218 c.if-clash-eq-GIVEN_UP.false))
