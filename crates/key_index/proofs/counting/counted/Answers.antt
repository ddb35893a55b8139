-- `key_index::counting::counted` meets its contract, case by case.
use Prim.Native.Nat.{◌+◌}
use mathlib.Core.Path.{sym, ap, ◌∙◌}
use mathlib.Core.Bool.{cond}
use lib.Dec.{ltb}
use borrow.Author.Tests.{lt-ltb, le-ltb}
use Rattle.key_index.specs.Counting.{counted_slots}
use Rattle.key_index.proofs.counting.counted.Goals as goal

pub returns-then-seed : goal.returns-then-seed
unfolding counted_slots
returns-then-seed c =
    let a = c.args in
    sym (ap (λ b. cond b a.slots (cond (ltb 4294967296 a.more) 4294967296 (a.slots + a.more))) c.if-seed.true)

pub returns-then-more-gt-MOST_COUNTED : goal.returns-then-more-gt-MOST_COUNTED
unfolding counted_slots
returns-then-more-gt-MOST_COUNTED c =
    let a = c.args in
    sym (ap (λ b. cond b a.slots (cond (ltb 4294967296 a.more) 4294967296 (a.slots + a.more))) c.if-seed.false
    ∙ ap (λ b. cond b 4294967296 (a.slots + a.more)) (lt-ltb 4294967296 a.more c.if-more-gt-MOST_COUNTED.true))

pub returns : goal.returns
unfolding counted_slots
returns c =
    let a = c.args in
    sym (ap (λ b. cond b a.slots (cond (ltb 4294967296 a.more) 4294967296 (a.slots + a.more))) c.if-seed.false
    ∙ ap (λ b. cond b 4294967296 (a.slots + a.more)) (le-ltb 4294967296 a.more c.if-more-gt-MOST_COUNTED.false))
