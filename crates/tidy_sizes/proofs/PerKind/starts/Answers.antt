-- `tidy_sizes::PerKind::starts` meets its contract: sums.
use mathlib.Core.Path.{refl}
use native.Mathlib.Omega.{arith}
use Rattle.tidy_sizes.specs.Numbers.{front, kind_starts}
use Rattle.tidy_sizes.proofs.PerKind.starts.Goals as goal

pub overflow_add-rg : goal.overflow_add-rg
unfolding front
overflow_add-rg c = omega (arith, c.requires)

pub overflow_add-pg : goal.overflow_add-pg
unfolding front
overflow_add-pg c = omega (arith, c.requires)

pub overflow_add-result : goal.overflow_add-result
unfolding front
overflow_add-result c = omega (arith, c.requires)

pub overflow_add-result-2 : goal.overflow_add-result-2
unfolding front
overflow_add-result-2 c = omega (arith, c.requires)

pub returns : goal.returns
unfolding kind_starts front
returns c = refl
