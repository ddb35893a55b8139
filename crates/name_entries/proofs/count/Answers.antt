-- `name_entries::count` meets its contract: the SQ entries that were passed, and those that are left.
use Prim.Native.Nat.{◌+◌, ◌-◌, ◌≤◌}
use mathlib.Core.Path.{sym, ◌∙◌}
use native.Mathlib.Omega.{arith}
use lib.ListN.{length}
use Rattle.name_entries.proofs.NextEntry.{sq-within, count_none, count-on}
use Rattle.name_entries.proofs.count.Goals as goal
use Rattle.name_entries.proofs.count.Goals.{Else-kind_of-ne-REFERENCE_SEQUENCE}

pub loop-at-init : goal.loop-at-init
loop-at-init c = (omega arith, omega arith, omega arith)

pub next_sq-at-requires : goal.next_sq-at-requires
next_sq-at-requires c = omega arith

pub returns-then-kind_of-ne-REFERENCE_SEQUENCE : goal.returns-then-kind_of-ne-REFERENCE_SEQUENCE
returns-then-kind_of-ne-REFERENCE_SEQUENCE c =
    omega (arith, c.loop-at.invariant.2, count_none c.args.catalogue.now c.loop-at.at c.next_sq-at.result c.next_sq-at.ensures c.entry_at-e.result c.entry_at-e.ensures (λ q. c.if-kind_of-ne-REFERENCE_SEQUENCE.true (c.kind_of.ensures ∙ q)))

-- ---- an SQ entry

within : (c : Else-kind_of-ne-REFERENCE_SEQUENCE) → c.next_sq-at.result + 21 ≤ length c.args.catalogue.now
within c =
    sq-within c.args.catalogue.now c.loop-at.at c.next_sq-at.result c.next_sq-at.ensures c.entry_at-e.result c.entry_at-e.ensures (sym c.kind_of.ensures ∙ c.if-kind_of-ne-REFERENCE_SEQUENCE.false)

pub overflow_add-n : goal.overflow_add-n
overflow_add-n c = omega arith

pub overflow_add-at : goal.overflow_add-at
overflow_add-at c = omega (arith, within c)

pub loop-at-smaller : goal.loop-at-smaller
loop-at-smaller c = omega (arith, within c, c.next_sq-at.ensures)

pub loop-at-preserved : goal.loop-at-preserved
loop-at-preserved c = (
  omega (arith, c.loop-at.invariant.0, c.next_sq-at.ensures),
  omega (arith, within c),
  omega (arith, c.loop-at.invariant.2, count-on c.args.catalogue.now c.loop-at.at c.next_sq-at.result c.next_sq-at.ensures c.entry_at-e.result c.entry_at-e.ensures (sym c.kind_of.ensures ∙ c.if-kind_of-ne-REFERENCE_SEQUENCE.false)),
)
