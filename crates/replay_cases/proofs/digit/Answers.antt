-- `replay_cases::digit` meets its contract, range by range. Assumes nothing.
use Prim.Native.Nat.{◌+◌, ◌-◌}
use mathlib.Core.Path.{◌≡◌, sym, ◌∙◌}
use native.Mathlib.Omega.{arith}
use Rattle.replay_cases.proofs.Digits.{below-digits, decimal_digit, between-digits, hex-digit, above-digits}
use Rattle.replay_cases.proofs.digit.Goals as goal

pub returns-in-48-to-57 : goal.returns-in-48-to-57
returns-in-48-to-57 c = (omega arith, sym (decimal_digit c.args.b (omega arith) (omega arith)))

pub returns-in-97-to-102 : goal.returns-in-97-to-102
returns-in-97-to-102 c =
    let b = c.args.b in
    let ten : b - 97 + 10 ≡ b - 87 = omega arith in
    (omega arith, ten ∙ sym (hex-digit b (omega arith) (omega arith)))

pub returns-in_default : goal.returns-in_default
returns-in_default c = (omega arith, sym (below-digits c.args.b (omega arith)))

pub returns-in_default-2 : goal.returns-in_default-2
returns-in_default-2 c = (omega arith, sym (between-digits c.args.b (omega arith) (omega arith)))

pub returns-in_default-3 : goal.returns-in_default-3
returns-in_default-3 c = (omega arith, sym (above-digits c.args.b (omega arith)))
