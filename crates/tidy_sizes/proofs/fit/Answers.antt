-- `tidy_sizes::fit` meets its contract: nothing is summed that may wrap.
use Prim.Native.Nat.{◌+◌}
use native.Mathlib.Omega.{arith}
use Rattle.tidy_sizes.proofs.Plan.{unfit-long, unfit-short, unfit-none}
use Rattle.tidy_sizes.proofs.fit.Goals as goal

pub returns-then-n-gt-LONGEST : goal.returns-then-n-gt-LONGEST
returns-then-n-gt-LONGEST c = let a = c.args in unfit-long (a.n + a.more) a.besides a.room (omega (arith, c.if-n-gt-LONGEST.true))

pub returns-then-n-more : goal.returns-then-n-more
returns-then-n-more c = let a = c.args in unfit-long (a.n + a.more) a.besides a.room (omega (arith, c.if-n-gt-LONGEST.false, c.if-n-more.true))

pub returns-then-room-n : goal.returns-then-room-n
returns-then-room-n c =
    let a = c.args in
    unfit-short (a.n + a.more) a.besides a.room (omega (arith, c.if-n-gt-LONGEST.false, c.if-n-more.false)) (omega (arith, c.if-room-n.true))

pub returns : goal.returns
returns c =
    let a = c.args in
    unfit-none (a.n + a.more) a.besides a.room (omega (arith, c.if-n-gt-LONGEST.false, c.if-n-more.false)) (omega (arith, c.if-room-n.false))
