-- `sha256::extended` meets its contract: the words so far, and one more.
use Prim.Native.Nat.{◌<◌}
use native.Mathlib.Omega.{arith}
use lib.ListN.{length, take, length-set}
use Rattle.sha256.proofs.Schedule.{extended_none, extended-more, extended-all}
use Rattle.sha256.proofs.extended.Goals as goal

pub loop-t-init : goal.loop-t-init
loop-t-init c = (omega arith, extended_none c.args.words)

pub loop-t-preserved : goal.loop-t-preserved
loop-t-preserved c =
    let m = take 16 c.args.words in
    let l = c.loop-t in
    let room : l.t < length l.w = omega arith in
    (simp length-set (omega arith), extended-more m l.w l.t c.next.result (omega arith) room c.next.ensures l.invariant.1)

pub returns : goal.returns
returns c =
    let l = c.loop-t in
    extended-all (take 16 c.args.words) l.w l.t (omega arith) (omega arith) l.invariant.1
