-- `binary_parts::take_number` meets its contract: fewer than four bytes are left, or the number is in them.
use Prim.Native.Nat.{◌+◌}
use mathlib.Core.Path.{sym, ap, ◌∙◌}
use mathlib.Core.Option.{some}
use lib.ListN.{drop}
use Rattle.binary_parts.specs.Parts.{number_taken}
use Rattle.binary_parts.proofs.Taken.{number_short, number-at}
use Rattle.binary_parts.proofs.Places.{number-none, number-some}
use Rattle.binary_parts.proofs.take_number.Goals as goal

pub returns-then-bytes-at-lt4-clause-taken : goal.returns-then-bytes-at-lt4-clause-taken
unfolding number_taken
returns-then-bytes-at-lt4-clause-taken c = number_short c.args.bytes.now c.args.at c.if-bytes-at-lt4.true

pub returns-then-bytes-at-lt4-clause-is : goal.returns-then-bytes-at-lt4-clause-is
returns-then-bytes-at-lt4-clause-is c = number-none c.args.bytes.now c.args.at c.if-bytes-at-lt4.true

pub returns-clause-taken : goal.returns-clause-taken
unfolding number_taken
returns-clause-taken c =
    let a = c.args in
    number-at a.bytes.now a.at c.if-bytes-at-lt4.false ∙ ap (λ v. some (v, drop (a.at + 4) a.bytes.now)) (sym c.get_u32-value.ensures)

pub returns-clause-is : goal.returns-clause-is
returns-clause-is c = number-some c.args.bytes.now c.args.at c.if-bytes-at-lt4.false c.get_u32-value.result c.get_u32-value.ensures
