-- `decimal::len_u64` meets its contract: the digits passed, and those of what is left, are all of them. Assumes nothing.
use mathlib.Core.Path.{ap}
use native.Mathlib.Omega.{arith}
use lib.ListN.{length}
use Rattle.decimal.proofs.Written.{written_one, written-short, length-step}
use Rattle.decimal.proofs.len_u64.Goals as goal

pub loop-rest-init : goal.loop-rest-init
loop-rest-init c = omega arith

pub overflow_add-n : goal.overflow_add-n
overflow_add-n c = omega (arith, written-short c.args.v)

pub loop-rest-smaller : goal.loop-rest-smaller
loop-rest-smaller c = omega arith

pub loop-rest-preserved : goal.loop-rest-preserved
loop-rest-preserved c = (omega arith, omega (arith, c.loop-rest.invariant.1, length-step c.loop-rest.rest (omega arith) (omega arith)))

pub returns : goal.returns
returns c = omega (arith, ap length (written_one c.loop-rest.rest (omega arith)))
