-- `references::put_rows` meets its contract: what is still to write is the rows from the next SQ entry on.
use Prim.Native.Nat.{◌+◌, ◌-◌, ◌≤◌, ◌<◌}
use mathlib.Core.Path.{ap, ◌∙◌}
use native.Mathlib.Omega.{arith}
use lib.ListN.{length}
use Rattle.byte_slices.proofs.Over.{over-length}
use Rattle.references.proofs.Rows.{other-kind, left-all, left-none, ln-short, entry-within, row_room, left-on}
use Rattle.references.proofs.put_rows.Goals as goal
use Rattle.references.proofs.put_rows.Goals.{In-ReferenceSequence}

pub loop-name-init : goal.loop-name-init
loop-name-init c = left-all c.args.catalogue.now c.args.table.now c.requires

pub next_sq-at-requires : goal.next_sq-at-requires
next_sq-at-requires c = c.loop-name.invariant.within

-- ---- an SQ entry

short : (n : In-ReferenceSequence) → n.in-ReferenceSequence.ln < 4294967296
short n =
    let a = n.args in
    ln-short a.catalogue.now a.table.now n.loop-name.at n.loop-name.end n.loop-name.table n.loop-name.invariant n.next_sq-at.result n.next_sq-at.ensures n.entry_at.result n.entry_at.ensures _ _ _ n.in-ReferenceSequence.is

room : (n : In-ReferenceSequence) → n.loop-name.end + 3 ≤ length n.loop-name.table
room n =
    let a = n.args in
    omega (arith, row_room a.catalogue.now a.table.now n.loop-name.at n.loop-name.end n.loop-name.table n.loop-name.invariant n.next_sq-at.result n.next_sq-at.ensures n.entry_at.result n.entry_at.ensures _ _ _ n.in-ReferenceSequence.is)

within : (n : In-ReferenceSequence) → n.next_sq-at.result + 21 ≤ length n.args.catalogue.now
within n =
    let a = n.args in
    entry-within a.catalogue.now a.table.now n.loop-name.at n.loop-name.end n.loop-name.table n.loop-name.invariant n.next_sq-at.result n.next_sq-at.ensures n.entry_at.result n.entry_at.ensures _ _ _ n.in-ReferenceSequence.is

pub overflow_cast-ln : goal.overflow_cast-ln
overflow_cast-ln c = omega (arith, short (goal.at.overflow_cast-ln c).In-ReferenceSequence)

pub put_row-requires : goal.put_row-requires
put_row-requires c = room (goal.at.put_row-requires c).In-ReferenceSequence

pub overflow_add-end : goal.overflow_add-end
overflow_add-end c =
    omega (arith, room (goal.at.overflow_add-end c).In-ReferenceSequence, c.loop-name.invariant.same)

pub overflow_add-at : goal.overflow_add-at
overflow_add-at c = omega (arith, within (goal.at.overflow_add-at c).In-ReferenceSequence)

pub loop-name-smaller : goal.loop-name-smaller
loop-name-smaller c = omega (arith, within (goal.at.loop-name-smaller c).In-ReferenceSequence, c.next_sq-at.ensures)

pub loop-name-preserved : goal.loop-name-preserved
loop-name-preserved c =
    let a = c.args in
    left-on a.catalogue.now a.table.now c.loop-name.at c.loop-name.end c.loop-name.table c.loop-name.invariant c.next_sq-at.result c.next_sq-at.ensures c.entry_at.result c.entry_at.ensures _ _ _ c.in-ReferenceSequence.is
    c.put_row.new.table c.put_row.ensures (ap length c.put_row.ensures ∙ over-length c.loop-name.table c.loop-name.end _ (room (goal.at.loop-name-preserved c).In-ReferenceSequence))

pub shape_of-table-in_default : goal.shape_of-table-in_default
shape_of-table-in_default c = c.loop-name.invariant.same

pub returns-in_default : goal.returns-in_default
returns-in_default c =
    let a = c.args in
    left-none a.catalogue.now a.table.now c.loop-name.at c.loop-name.end c.loop-name.table c.loop-name.invariant c.next_sq-at.result c.next_sq-at.ensures c.entry_at.result c.entry_at.ensures
    (other-kind c.entry_at.result c.in_default.not-ReferenceSequence)
