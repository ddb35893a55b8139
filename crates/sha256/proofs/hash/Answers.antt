-- `sha256::hash` meets its contract: the whole blocks, and then one or two more.
use mathlib.Core.Path.{◌≡◌, ◌∙◌}
use native.Mathlib.Omega.{arith}
use lib.ListN.{length}
use Rattle.sha256.specs.Parts.{value_of}
use Rattle.sha256.proofs.Padded.{last_one, last-two}
use Rattle.sha256.proofs.hash.Goals as goal

pub returns-then-text-lt56 : goal.returns-then-text-lt56
returns-then-text-lt56 c =
    let text = c.args.text.now in
    c.bytes.ensures
    ∙ last_one text c.ending-last.result (value_of c.whole-s.result) (value_of c.compress-t.result) c.if-text-lt56.true c.ending-last.ensures c.whole-s.ensures c.compress-t.ensures

pub returns : goal.returns
returns c =
    let text = c.args.text.now in
    let last = c.ending-last.result in
    let long : length last ≡ 128 = omega arith in
    c.bytes-2.ensures
    ∙ last-two text last (value_of c.whole-s.result) (value_of c.compress-t.result) (value_of c.compress.result) c.if-text-lt56.false long c.ending-last.ensures c.whole-s.ensures c.compress-t.ensures c.compress.ensures
