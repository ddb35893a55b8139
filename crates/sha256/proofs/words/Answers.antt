-- `sha256::words` meets its contract: what is read, and what is left.
use Prim.Native.Nat.{◌<◌}
use mathlib.Core.Path.{refl}
use native.Mathlib.Omega.{arith}
use lib.ListN.{length, length-set}
use Rattle.sha256.proofs.Parsed.{read_none, read_more, read_all}
use Rattle.sha256.proofs.words.Goals as goal

pub loop-i-init : goal.loop-i-init
loop-i-init c = (refl, read_none _ _ _)

pub loop-i-preserved : goal.loop-i-preserved
loop-i-preserved c =
    let l = c.loop-i in
    let room : l.i < length l.w = omega arith in
    (simp length-set (omega arith), read_more c.args.s.now c.args.at l.w l.i c.word.result c.requires (omega arith) room c.word.ensures l.invariant.1)

pub returns : goal.returns
returns c =
    let l = c.loop-i in
    read_all c.args.s.now c.args.at l.w l.i c.requires (omega arith) l.invariant.1
