-- `name_entries::next_sq` meets its contract: the next SQ entry from where the walk is, is the next from `start`.
use Prim.Native.Nat.{◌+◌, ◌-◌, ◌≤◌}
use mathlib.Core.Path.{◌≡◌, refl, sym, ◌∙◌}
use native.Mathlib.Omega.{arith}
use lib.ListN.{length}
use Rattle.catalogue_entries.proofs.Walk.{turn-within}
use Rattle.name_entries.specs.Next.{next_sq}
use Rattle.name_entries.proofs.NextEntry.{next-end, next_here, next-on}
use Rattle.name_entries.proofs.next_sq.Goals as goal
use Rattle.name_entries.proofs.next_sq.Goals.{After-size-len, Else-len-eq0}

pub loop-e-init : goal.loop-e-init
loop-e-init c = (omega arith, refl)

pub pass_fields-at-requires : goal.pass_fields-at-requires
pass_fields-at-requires c = omega arith

-- ---- in a step of the loop

-- from the place after the fields
from : (c : After-size-len) → next_sq c.args.catalogue.now c.args.start ≡ next_sq c.args.catalogue.now c.pass_fields-at.result
from c = c.loop-e.invariant.1 ∙ c.pass_fields-at.ensures.2

pub returns-then-len-eq0 : goal.returns-then-len-eq0
returns-then-len-eq0 c =
    sym (from (goal.at.returns-then-len-eq0 c).After-size-len ∙ next-end c.args.catalogue.now c.pass_fields-at.result c.size-len.result c.entry_at-e.result c.entry_at-e.ensures c.size-len.ensures c.if-len-eq0.true)

pub returns-then-kind_of-eq-REFERENCE_SEQUENCE : goal.returns-then-kind_of-eq-REFERENCE_SEQUENCE
returns-then-kind_of-eq-REFERENCE_SEQUENCE c =
    sym
    (from (goal.at.returns-then-kind_of-eq-REFERENCE_SEQUENCE c).After-size-len
    ∙ next_here c.args.catalogue.now c.pass_fields-at.result c.size-len.result c.entry_at-e.result c.entry_at-e.ensures c.size-len.ensures c.if-len-eq0.false
    (sym c.kind_of.ensures ∙ c.if-kind_of-eq-REFERENCE_SEQUENCE.true))

-- the entry is within the catalogue
within : (c : Else-len-eq0) → c.pass_fields-at.result + c.size-len.result ≤ length c.args.catalogue.now
within c = turn-within _ _ _ _ c.entry_at-e.ensures c.size-len.ensures c.if-len-eq0.false

pub overflow_add-at : goal.overflow_add-at
overflow_add-at c = omega (arith, within (goal.at.overflow_add-at c).Else-len-eq0)

pub loop-e-smaller : goal.loop-e-smaller
loop-e-smaller c = omega (arith, within (goal.at.loop-e-smaller c).Else-len-eq0, c.if-len-eq0.false, c.pass_fields-at.ensures.0)

pub loop-e-preserved : goal.loop-e-preserved
loop-e-preserved c = (
  omega (arith, within (goal.at.loop-e-preserved c).Else-len-eq0),
  from (goal.at.loop-e-preserved c).After-size-len
      ∙ next-on c.args.catalogue.now c.pass_fields-at.result c.size-len.result c.entry_at-e.result c.entry_at-e.ensures c.size-len.ensures c.if-len-eq0.false
      (λ q. c.if-kind_of-eq-REFERENCE_SEQUENCE.false (c.kind_of.ensures ∙ q)),
)
