-- `replay_answers::is_pair` meets its contract: both digits are the byte's.
use Prim.Native.Nat.{◌+◌, ◌/◌, ◌%◌}
use mathlib.Core.Path.{refl, sym, ap, ◌∙◌}
use mathlib.Core.Bool.{◌&&◌}
use lib.ListN.{get_or}
use lib.Dec.{eqb}
use borrow.Author.Tests.{eq-eqb, ne_eqb}
use Rattle.replay_answers.specs.Answers.{hex_digit}
use Rattle.replay_answers.proofs.is_pair.Goals as goal

pub returns-then-s-at : goal.returns-then-s-at
returns-then-s-at c =
    let a = c.args in
    rw (ne_eqb (get_or a.s.now a.at 0) (hex_digit (a.b / 16)) (λ e. c.if-s-at.true (e ∙ sym c.letter.ensures))) refl

pub returns : goal.returns
returns c =
    let a = c.args in
    let y = get_or a.s.now (a.at + 1) 0 in
    ap (eqb y) c.letter-2.ensures
    ∙ sym (ap (λ t. t && eqb y (hex_digit (a.b % 16))) (eq-eqb (get_or a.s.now a.at 0) (hex_digit (a.b / 16)) (c.if-s-at.false ∙ c.letter.ensures)))
