-- `sha256::compress` meets its contract: the words, the schedule, the rounds and the sum.
use lib.ListN.{take, drop}
use Rattle.sha256.specs.Parts.{value_of}
use Rattle.sha256.proofs.RoundByRound.{composed}
use Rattle.sha256.proofs.compress.Goals as goal

pub returns : goal.returns
returns c =
    composed (value_of c.args.s) (value_of c.rounds.result) (value_of c.sum.result) (take 64 (drop c.args.at c.args.text.now)) c.words.result c.extended-w.result c.words.ensures c.extended-w.ensures c.rounds.ensures c.sum.ensures
