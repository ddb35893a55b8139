-- `tidy_parts::version_len` meets its contract: a number, a dot, a number.
use native.Mathlib.Omega.{arith}
use Rattle.decimal.proofs.Written.{written-short}
use Rattle.tidy_parts.proofs.Sizes.{version-size}
use Rattle.tidy_parts.proofs.version_len.Goals as goal

pub overflow_add-result : goal.overflow_add-result
overflow_add-result c = omega (arith, written-short c.args.v.major)

pub overflow_add-result-2 : goal.overflow_add-result-2
overflow_add-result-2 c = omega (arith, written-short c.args.v.major, written-short c.args.v.minor)

pub returns : goal.returns
returns c = omega (arith, version-size c.args.v)
