-- `sha256::bytes` meets its contract: eight words in a row.
use Rattle.sha256.specs.Parts.{value_of}
use Rattle.sha256.proofs.Big.{words-put}
use Rattle.sha256.proofs.bytes.Goals as goal

pub returns : goal.returns
returns c =
    words-put (value_of c.args.s)
    c.put_big.new.out
    c.put_big-2.new.out
    c.put_big-3.new.out
    c.put_big-4.new.out
    c.put_big-5.new.out
    c.put_big-6.new.out
    c.put_big-7.new.out
    c.put_big-8.new.out
    c.put_big.ensures
    c.put_big-2.ensures
    c.put_big-3.ensures
    c.put_big-4.ensures
    c.put_big-5.ensures
    c.put_big-6.ensures
    c.put_big-7.ensures
    c.put_big-8.ensures
