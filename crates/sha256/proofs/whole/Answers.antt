-- `sha256::whole` meets its contract: the blocks that are left.
use Prim.Native.Nat.{◌/◌}
use native.Mathlib.Omega.{arith}
use lib.ListN.{length}
use Rattle.sha256.specs.Parts.{value_of}
use Rattle.sha256.proofs.Blocks.{begun-none, begun_more, begun_all}
use Rattle.sha256.proofs.whole.Goals as goal

pub loop-i-init : goal.loop-i-init
loop-i-init c = begun-none c.args.text.now _ _ c.initial-s.ensures

pub loop-i-preserved : goal.loop-i-preserved
loop-i-preserved c =
    let text = c.args.text.now in
    let l = c.loop-i in
    begun_more text (length text / 64) l.i (value_of l.s) (value_of c.compress-s.result) (omega arith) c.compress-s.ensures l.invariant

pub returns : goal.returns
returns c =
    let text = c.args.text.now in
    let l = c.loop-i in
    begun_all text (length text / 64) l.i (value_of l.s) (omega arith) l.invariant
