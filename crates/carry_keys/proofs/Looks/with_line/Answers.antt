-- `carry_keys::Looks::with_line` meets its contract: slots that are not too many are few, and only plain numbers are given up.
use mathlib.Core.Path.{refl, sym, ap, ◌∙◌}
use native.Mathlib.Omega.{arith}
use Rattle.key_index.specs.Counting.{too_many}
use Rattle.key_index.proofs.counting.Calm.{counted-most, calm-few, busy-plain}
use Rattle.carry_keys.proofs.Looks.with_line.Goals as goal

pub returns-then-is_busy-clause-busy : goal.returns-then-is_busy-clause-busy
returns-then-is_busy-clause-busy c =
    busy-plain c.args.seed.keyed c.args.self.lines c.counted-slots.result (sym c.is_busy.ensures ∙ c.if-is_busy.true)

pub returns-then-is_busy-clause-err : goal.returns-then-is_busy-clause-err
returns-then-is_busy-clause-err c =
    omega (arith, c.counted-slots.ensures, counted-most c.args.seed.keyed c.args.self.slots c.args.more, c.requires.slots_bound)

pub returns-clause-ok : goal.returns-clause-ok
returns-clause-ok c =
    let a = c.args in
    let calm = calm-few a.seed.keyed a.self.lines a.self.slots a.more
    (ap (too_many a.seed.keyed a.self.lines) (sym c.counted-slots.ensures) ∙ sym c.is_busy.ensures ∙ c.if-is_busy.false) c.requires.slots_bound in
    (refl, omega (arith, c.counted-slots.ensures, calm))
