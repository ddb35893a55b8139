-- `replay_answers::is_hex` meets its contract: what is left of the word is to be the bytes that are left.
use Prim.Native.Nat.{◌+◌, ◌-◌, ◌*◌}
use mathlib.Core.Path.{◌≡◌, sym, ap, ◌∙◌}
use mathlib.Core.Bool.{Bool, ◌&&◌}
use native.Mathlib.Omega.{arith}
use lib.ListN.{drop}
use borrow.Author.Tests.{not-true, not-false}
use Rattle.format.specs.Bytes.{same}
use Rattle.replay_answers.specs.Answers.{hex_of, hex_word}
use Rattle.replay_answers.proofs.Hex.{hex-some, hex-other, hex-none, hex-step, hex-end}
use Rattle.replay_answers.proofs.is_hex.Goals as goal
use Rattle.replay_answers.proofs.is_hex.Goals.{After-is_pair}

pub returns-then-bytes-eq0 : goal.returns-then-bytes-eq0
returns-then-bytes-eq0 c =
    let a = c.args in
    c.same.ensures ∙ hex-none a.s.now a.bytes.now c.if-bytes-eq0.true

pub returns-then-s-ne0 : goal.returns-then-s-ne0
returns-then-s-ne0 c =
    let a = c.args in
    hex-other a.s.now a.bytes.now (omega (arith, c.if-bytes-eq0.false)) (λ e. omega (arith, c.if-s-ne0.true, e))

pub returns-then-s-bytes : goal.returns-then-s-bytes
returns-then-s-bytes c =
    let a = c.args in
    hex-other a.s.now a.bytes.now (omega (arith, c.if-bytes-eq0.false)) (λ e. omega (arith, c.if-s-bytes.true, e))

pub loop-i-init : goal.loop-i-init
loop-i-init c =
    let a = c.args in
    (omega (arith, c.if-s-bytes.false, c.if-s-ne0.false), ap (same a.s.now) (hex-some a.bytes.now (omega (arith, c.if-bytes-eq0.false))))

-- what is left to compare after a step
left : After-is_pair → Bool
left p =
    let a = p.args in
    same (drop (2 * (p.loop-i.i + 1)) a.s.now) (hex_of (drop (p.loop-i.i + 1) a.bytes.now))

turned : (p : After-is_pair)
    → (let a = p.args in same a.s.now (hex_word a.bytes.now) ≡ (p.is_pair.result && left p))
unfolding left
turned p =
    let a = p.args in
    p.loop-i.invariant.1 ∙ hex-step a.s.now a.bytes.now p.loop-i.i p.loop-i.invariant.0 (omega arith) ∙ ap (λ t. t && left p) (sym p.is_pair.ensures)

pub returns-then-not-is_pair : goal.returns-then-not-is_pair
unfolding left
returns-then-not-is_pair c = sym (turned (goal.at.returns-then-not-is_pair c).After-is_pair ∙ ap (λ t. t && left (goal.at.returns-then-not-is_pair c).After-is_pair) c.if-not-is_pair.true)

pub loop-i-preserved : goal.loop-i-preserved
unfolding left
loop-i-preserved c =
    (c.loop-i.invariant.0, turned (goal.at.loop-i-preserved c).After-is_pair ∙ ap (λ t. t && left (goal.at.loop-i-preserved c).After-is_pair) c.if-not-is_pair.false)

pub returns : goal.returns
returns c =
    let a = c.args in
    sym (c.loop-i.invariant.1 ∙ hex-end a.s.now a.bytes.now c.loop-i.i c.loop-i.invariant.0 (omega arith))
