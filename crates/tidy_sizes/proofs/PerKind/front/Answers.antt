-- `tidy_sizes::PerKind::front` meets its contract: a sum.
use mathlib.Core.Path.{refl}
use native.Mathlib.Omega.{arith}
use Rattle.tidy_sizes.specs.Numbers.{front}
use Rattle.tidy_sizes.proofs.PerKind.front.Goals as goal

pub overflow_add-result : goal.overflow_add-result
unfolding front
overflow_add-result c = omega (arith, c.requires)

pub overflow_add-result-2 : goal.overflow_add-result-2
unfolding front
overflow_add-result-2 c = omega (arith, c.requires)

pub overflow_add-result-3 : goal.overflow_add-result-3
unfolding front
overflow_add-result-3 c = omega (arith, c.requires)

pub returns : goal.returns
unfolding front
returns c = refl
