-- `sam_header_words::short_word` meets its contract. Assumes nothing.
use Prim.Native.Nat.{◌^◌}
use mathlib.Core.Path.{refl, ◌∙◌}
use borrow.Author.Tests.{lt-ltb, le-ltb}
use Rattle.sam_header_words.specs.Words.{short_word}
use Rattle.sam_header_words.proofs.short_word.Goals as goal

pub returns-then-n-lt4611686018427387904 : goal.returns-then-n-lt4611686018427387904
unfolding short_word
returns-then-n-lt4611686018427387904 c =
    let a = c.args in
    rw (lt-ltb a.n (2 ^ 62) c.if-n-lt4611686018427387904.true) refl

pub returns-else-n-lt4611686018427387904 : goal.returns-else-n-lt4611686018427387904
unfolding short_word
returns-else-n-lt4611686018427387904 c =
    let a = c.args in
    c.refusal_word.ensures ∙ rw c.of_text.ensures (rw (le-ltb a.n (2 ^ 62) c.if-n-lt4611686018427387904.false) refl)
