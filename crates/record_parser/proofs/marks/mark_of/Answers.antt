-- `record_parser::marks::mark_of` meets its contract: the bytes of a tag are 65 to 122 and 48 to 122.
use mathlib.Core.Path.{refl}
use native.Mathlib.Omega.{arith}
use Rattle.accepted.proofs.Clean.{tag-bounds}
use Rattle.record_parser.specs.Marks.{mark_place}
use Rattle.record_parser.proofs.marks.mark_of.Goals as goal

pub overflow_sub-result : goal.overflow_sub-result
overflow_sub-result c = let b = tag-bounds _ _ c.requires in omega (arith, b.0.0)

pub overflow_sub-result-then-exact : goal.overflow_sub-result-then-exact
overflow_sub-result-then-exact c = let b = tag-bounds _ _ c.requires in omega (arith, b.1.0)

pub returns-then-exact : goal.returns-then-exact
unfolding mark_place
returns-then-exact c = rw c.if-exact.true refl

pub returns : goal.returns
unfolding mark_place
returns c = rw c.if-exact.false refl
