-- `tidy_neat::is_plain_length` meets its contract: each test is one of the definition's.
use mathlib.Core.Path.{refl, sym, ◌∙◌}
use borrow.Author.Tests.{lt-ltb, le-ltb, not-true, not-false}
use Rattle.tidy_neat.specs.Neat.{plain_length}
use Rattle.tidy_neat.proofs.is_plain_length.Goals as goal

pub returns-then-not-has_tag : goal.returns-then-not-has_tag
unfolding plain_length
returns-then-not-has_tag c = rw (sym c.has_tag.ensures ∙ not-true c.has_tag.result c.if-not-has_tag.true-raw) refl

pub returns-then-src-i-lt5 : goal.returns-then-src-i-lt5
unfolding plain_length
returns-then-src-i-lt5 c = rw (sym c.has_tag.ensures ∙ not-false c.has_tag.result c.if-not-has_tag.false-raw, lt-ltb _ _ c.if-src-i-lt5.true) refl

pub returns : goal.returns
unfolding plain_length
returns c = rw (sym c.has_tag.ensures ∙ not-false c.has_tag.result c.if-not-has_tag.false-raw, le-ltb _ _ c.if-src-i-lt5.false) refl
