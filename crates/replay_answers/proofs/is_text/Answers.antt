-- `replay_answers::is_text` meets its contract: the front is what the word says, and after it is the filler.
use mathlib.Core.Path.{◌≡◌, sym, ap, ◌∙◌}
use mathlib.Core.Bool.{◌&&◌, cond, false}
use native.Mathlib.Omega.{arith}
use lib.ListN.{length, take, drop}
use lib.Dec.{eqb}
use lib.Seq.{length-take-le}
use borrow.Author.Tests.{lt-ltb, le-ltb, not-true, not-false}
use Rattle.format.specs.Bytes.{same, all}
use Rattle.byte_slices.proofs.Before.{rest}
use Rattle.replay_answers.specs.Answers.{hex_word, text_is}
use Rattle.replay_answers.proofs.is_text.Goals as goal
use Rattle.replay_answers.proofs.is_text.Goals.{Else-out-n}

-- the output is long enough
long : (e : Else-out-n) → (let a = e.args in text_is a.word.now a.out.now a.n ≡ (same a.word.now (hex_word (take a.n a.out.now)) && all (eqb 165) (drop a.n a.out.now)))
unfolding text_is
long e = let a = e.args in ap (λ t. cond t false (same a.word.now (hex_word (take a.n a.out.now)) && all (eqb 165) (drop a.n a.out.now))) (le-ltb (length a.out.now) a.n e.if-out-n.false)

pub returns-then-out-n : goal.returns-then-out-n
unfolding text_is
returns-then-out-n c =
    let a = c.args in
    sym (ap (λ t. cond t false (same a.word.now (hex_word (take a.n a.out.now)) && all (eqb 165) (drop a.n a.out.now))) (lt-ltb (length a.out.now) a.n c.if-out-n.true))

pub slice_bounds-is_hex-end : goal.slice_bounds-is_hex-end
slice_bounds-is_hex-end c = sym (length-take-le _ _ (omega arith))

pub returns-then-not-is_hex : goal.returns-then-not-is_hex
returns-then-not-is_hex c =
    let a = c.args in
    sym (long (goal.at.returns-then-not-is_hex c).Else-out-n ∙ ap (λ t. t && all (eqb 165) (drop a.n a.out.now)) (sym c.is_hex.ensures ∙ not-true c.is_hex.result c.if-not-is_hex.true-raw))

pub returns : goal.returns
returns c =
    let a = c.args in
    c.is_untouched.ensures
    ∙ ap (all (eqb 165)) (rest a.n a.out.now)
    ∙ sym (long (goal.at.returns c).Else-out-n ∙ ap (λ t. t && all (eqb 165) (drop a.n a.out.now)) (sym c.is_hex.ensures ∙ not-false c.is_hex.result c.if-not-is_hex.false-raw))
