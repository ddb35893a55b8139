-- `sha256::word` meets its contract: std reads four bytes, the highest first.
use native.Mathlib.Omega.{arith}
use Rattle.format.specs.Sha256.{from_big}
use Rattle.sha256.specs.Parts.{word_at}
use Rattle.sha256.proofs.word.Goals as goal

pub returns : goal.returns
unfolding from_big word_at
returns c = let e = c.from_be_bytes.ensures in omega (arith, e)
