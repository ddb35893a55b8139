-- `sha256::upper1` meets its contract: the machine's operations are the definition's.
use Rattle.std.specs.Int.Bits.{bit_xor}
use Rattle.format.specs.Sha256.{rotr, Σ1}
use Rattle.sha256.proofs.upper1.Goals as goal

pub returns : goal.returns
unfolding Σ1 rotr
returns c = λ i. bit_xor (bit_xor (c.rotate_right.ensures i) (c.rotate_right-2.ensures i)) (c.rotate_right-3.ensures i)
