-- `key_at::is_at` meets its contract: a key that ends there, and then what is left of both decides.
use Prim.Native.Nat.{ℕ, ◌+◌}
use mathlib.Core.Path.{◌≡◌, sym, ap, ◌∙◌}
use mathlib.Core.Bool.{◌&&◌}
use native.Mathlib.Omega.{arith}
use lib.ListN.{length, drop}
use Rattle.format.specs.Bytes.{same, none?}
use Rattle.key_at.specs.Word.{word}
use Rattle.key_at.proofs.Word.{same_none}
use Rattle.key_at.proofs.Same.{short-same, longer-differs, byte-decides}
use Rattle.key_at.proofs.is_at.Goals as goal
use Rattle.key_at.proofs.is_at.Goals.{After-goes_on}

pub returns-then-text-end : goal.returns-then-text-end
returns-then-text-end c = let a = c.args in short-same a.key.now a.text.now a.at c.if-text-end.true

pub returns-then-not-ends : goal.returns-then-not-ends
returns-then-not-ends c = let a = c.args in longer-differs a.key.now a.text.now a.at (sym c.ends.ensures ∙ c.if-not-ends.true)

-- in a step of the loop
decided : (c : After-goes_on)
    → same c.args.key.now (word (drop c.args.at c.args.text.now))
    ≡ (c.goes_on.result && same (drop (c.loop-i.i + 1) c.args.key.now) (word (drop (c.args.at + c.loop-i.i + 1) c.args.text.now)))
decided c =
    let a = c.args in
    let i : ℕ = c.loop-i.i in
    c.loop-i.invariant
    ∙ byte-decides a.key.now a.text.now i (a.at + i) (omega arith) (omega (arith, c.if-text-end.false))
    ∙ ap (λ w. w && same (drop (i + 1) a.key.now) (word (drop (a.at + i + 1) a.text.now))) (sym c.goes_on.ensures)

pub returns-then-not-goes_on : goal.returns-then-not-goes_on
returns-then-not-goes_on c =
    let w = (goal.at.returns-then-not-goes_on c).After-goes_on in
    sym (decided w ∙ ap (λ g. g && same (drop (w.loop-i.i + 1) w.args.key.now) (word (drop (w.args.at + w.loop-i.i + 1) w.args.text.now))) c.if-not-goes_on.true)

pub loop-i-preserved : goal.loop-i-preserved
loop-i-preserved c =
    let w = (goal.at.loop-i-preserved c).After-goes_on in
    let a = c.args in
    let i : ℕ = c.loop-i.i in
    let z : a.at + i + 1 ≡ a.at + (i + 1) = omega arith in
    decided w
    ∙ ap (λ g. g && same (drop (i + 1) a.key.now) (word (drop (a.at + i + 1) a.text.now))) c.if-not-goes_on.false
    ∙ ap (λ m. same (drop (i + 1) a.key.now) (word (drop m a.text.now))) z

pub returns : goal.returns
returns c =
    let a = c.args in
    let z : a.at + c.loop-i.i ≡ a.at + length a.key.now = omega arith in
    sym
    (c.loop-i.invariant ∙ same_none a.key.now (word (drop (a.at + c.loop-i.i) a.text.now)) c.loop-i.i (omega arith)
    ∙ ap (λ m. none? (word (drop m a.text.now))) z ∙ sym c.ends.ensures ∙ c.if-not-ends.false)
