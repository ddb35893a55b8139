-- `sha256::next` meets its contract: the word by its four.
use native.Mathlib.Omega.{arith}
use Rattle.format.specs.Sha256.{sum32}
use Rattle.sha256.proofs.Schedule.{next-at}
use Rattle.sha256.proofs.next.Goals as goal

pub returns : goal.returns
unfolding sum32
returns c =
    let h : _ = next-at c.args.w.now c.args.t c.requires.0 (omega arith) in
    cc h
