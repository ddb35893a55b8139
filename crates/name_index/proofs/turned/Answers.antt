-- `name_index::turned` meets its contract: below twice `n`, the remainder is what is left of at most one `n`.
use Rattle.std.proofs.Common.{sym, ◌∙◌, mod-eq_of_lt, arith}
use native.Mathlib.Nat.{mod-eq-sub-mod}
use Rattle.name_index.proofs.turned.Goals as goal

pub returns-then-at-n : goal.returns-then-at-n
returns-then-at-n c = sym (mod-eq_of_lt c.if-at-n.true)

pub returns : goal.returns
returns c = sym (mod-eq-sub-mod c.if-at-n.false ∙ mod-eq_of_lt (omega arith))
