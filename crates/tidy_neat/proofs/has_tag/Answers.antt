-- `tidy_neat::has_tag` meets its contract: each test is one of the definition's.
use borrow.Author.Tests.{lt-ltb, le-ltb, eq-eqb, ne_eqb}
use Rattle.tidy_neat.specs.Neat.{has_tag}
use Rattle.tidy_neat.proofs.has_tag.Goals as goal

pub returns-then-src-i-lt3 : goal.returns-then-src-i-lt3
unfolding has_tag
returns-then-src-i-lt3 c = simp (lt-ltb _ _ c.if-src-i-lt3.true)

pub returns-then-src-i : goal.returns-then-src-i
unfolding has_tag
returns-then-src-i c = simp (le-ltb _ _ c.if-src-i-lt3.false, eq-eqb _ _ c.if-src-i.true)

pub returns : goal.returns
unfolding has_tag
returns c = simp (le-ltb _ _ c.if-src-i-lt3.false, ne_eqb _ _ c.if-src-i.false)
