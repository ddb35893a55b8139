-- `name_slots::value` meets its contract: the ordinal, or the offset and the mark, plus one.
use Prim.Native.Nat.{◌+◌, ◌*◌, ◌<◌}
use mathlib.Core.Path.{ap, ◌∙◌}
use native.Mathlib.Omega.{arith}
use native.Mathlib.Numerals.{add-one}
use Rattle.name_slots.specs.Filled.{mark_of, value_of}
use Rattle.name_slots.proofs.Filling.{mark-lt}
use Rattle.name_slots.proofs.value.Goals as goal
use Rattle.name_slots.proofs.value.Goals.{After-check_bits}

pub returns-then-ordinals : goal.returns-then-ordinals
unfolding value_of
returns-then-ordinals c = rw c.if-ordinals.true (add-one c.args.k)

small : (c : After-check_bits) → c.check_bits.result < 128
small c = omega (arith, c.check_bits.ensures, mark-lt c.args.number)

pub overflow_add-result-2 : goal.overflow_add-result-2
overflow_add-result-2 c = omega (arith, small c)

pub overflow_add-result-3 : goal.overflow_add-result-3
overflow_add-result-3 c = omega (arith, small c)

pub returns : goal.returns
unfolding value_of
returns c =
    let a = c.args in
    rw c.if-ordinals.false (ap (λ m. a.at * 128 + m + 1) c.check_bits.ensures ∙ add-one (a.at * 128 + mark_of a.number))
