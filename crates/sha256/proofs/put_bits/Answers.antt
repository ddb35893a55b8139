-- `sha256::put_bits` meets its contract: two halves in a row.
use Rattle.sha256.proofs.Big.{bits_put}
use Rattle.sha256.proofs.put_bits.Goals as goal

pub returns : goal.returns
returns c =
    bits_put c.args.out.now c.put_big.new.out c.put_big-2.new.out c.args.at c.args.n c.requires c.put_big.ensures c.put_big-2.ensures
