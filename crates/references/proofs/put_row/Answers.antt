-- `references::put_row` meets its contract: three stores in a row are one `over`.
use native.Mathlib.Omega.{arith}
use lib.ListN.{length-set}
use Rattle.references.proofs.Rows.{over-three}
use Rattle.references.proofs.put_row.Goals as goal

pub bounds-table-at-2 : goal.bounds-table-at-2
bounds-table-at-2 c = simp length-set (omega arith)

pub bounds-table-at-3 : goal.bounds-table-at-3
bounds-table-at-3 c = simp length-set (omega arith)

pub returns : goal.returns
returns c = over-three c.args.table.now c.args.at _ _ _ c.requires
