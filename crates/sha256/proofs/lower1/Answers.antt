-- `sha256::lower1` meets its contract: the machine's operations are the definition's.
use Prim.Native.Nat.{◌/◌, ◌^◌}
use Rattle.std.specs.Int.Bits.{bit_xor}
use Rattle.format.specs.Sha256.{shr, rotr, σ1}
use Rattle.sha256.proofs.lower1.Goals as goal

pub returns : goal.returns
unfolding σ1 rotr shr
returns c = λ i. bit_xor (bit_xor (c.rotate_right.ensures i) (c.rotate_right-2.ensures i)) (c.args.x / 2 ^ 10)
