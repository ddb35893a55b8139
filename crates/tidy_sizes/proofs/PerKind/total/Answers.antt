-- `tidy_sizes::PerKind::total` meets its contract: a sum.
use mathlib.Core.Path.{refl}
use native.Mathlib.Omega.{arith}
use Rattle.tidy_sizes.specs.Numbers.{front, total}
use Rattle.tidy_sizes.proofs.PerKind.total.Goals as goal

pub overflow_add-result : goal.overflow_add-result
unfolding total front
overflow_add-result c = omega (arith, c.requires)

pub overflow_add-result-2 : goal.overflow_add-result-2
unfolding total front
overflow_add-result-2 c = omega (arith, c.requires)

pub overflow_add-result-3 : goal.overflow_add-result-3
unfolding total front
overflow_add-result-3 c = omega (arith, c.requires)

pub overflow_add-result-4 : goal.overflow_add-result-4
unfolding total front
overflow_add-result-4 c = omega (arith, c.requires)

pub returns : goal.returns
unfolding total front
returns c = refl
