-- `sha256::ending` meets its contract: the rest, 0x80, zeros, and the length in bits.
use native.Mathlib.Omega.{arith}
use lib.ListN.{length-set}
use Rattle.sha256.proofs.Padded.{one_block, two_blocks, ending-put}
use Rattle.sha256.proofs.ending.Goals as goal

pub put_bits-requires : goal.put_bits-requires
put_bits-requires c = simp length-set (omega arith)

pub put_bits-requires-else-rest-lt56 : goal.put_bits-requires-else-rest-lt56
put_bits-requires-else-rest-lt56 c = simp length-set (omega arith)

pub returns-then-rest-lt56 : goal.returns-then-rest-lt56
returns-then-rest-lt56 c =
    let s = c.args.s.now in
    ending-put s c.put_bytes.new.out c.put_bits.new.out 56 (one_block s c.if-rest-lt56.true) (omega arith) c.put_bytes.ensures c.put_bits.ensures

pub returns-else-rest-lt56 : goal.returns-else-rest-lt56
returns-else-rest-lt56 c =
    let s = c.args.s.now in
    ending-put s c.put_bytes.new.out c.put_bits-else-rest-lt56.new.out 120 (two_blocks s c.if-rest-lt56.false) (omega arith) c.put_bytes.ensures c.put_bits-else-rest-lt56.ensures
