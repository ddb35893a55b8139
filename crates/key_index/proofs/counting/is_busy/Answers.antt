-- `key_index::counting::is_busy` meets its contract, by how keys are numbered.
use Prim.Native.Nat.{◌+◌, ◌*◌}
use mathlib.Core.Path.{sym, ap}
use mathlib.Core.Bool.{false, cond}
use lib.Dec.{ltb}
use Rattle.key_index.specs.Counting.{too_many}
use Rattle.key_index.proofs.counting.is_busy.Goals as goal

pub returns-then-seed : goal.returns-then-seed
unfolding too_many
returns-then-seed c =
    let a = c.args in
    sym (ap (λ b. cond b false (ltb (65536 + 16 * a.lines) a.slots)) c.if-seed.true)

pub returns : goal.returns
unfolding too_many
returns c =
    let a = c.args in
    sym (ap (λ b. cond b false (ltb (65536 + 16 * a.lines) a.slots)) c.if-seed.false)
