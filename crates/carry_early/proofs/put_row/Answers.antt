-- `carry_early::put_row` meets its contract: two stores in a row.
use Prim.Native.Nat.{◌*◌}
use mathlib.Core.List.{[], ◌∷◌}
use native.Mathlib.Omega.{arith}
use native.Mathlib.Numerals.{add-one}
use lib.ListN.{length-set}
use lib.Seq.{sets-eq}
use Rattle.byte_slices.specs.Over.{over}
use Rattle.carry_early.proofs.put_row.Goals as goal

pub bounds-table-row-2 : goal.bounds-table-row-2
bounds-table-row-2 c = omega (arith, length-set c.args.table.now (c.args.row * 2) c.args.line, c.requires)

pub returns : goal.returns
unfolding over
returns c = rw (add-one (c.args.row * 2)) (sets-eq (c.args.line ∷ c.args.n ∷ []) c.args.table.now (c.args.row * 2) c.requires)
