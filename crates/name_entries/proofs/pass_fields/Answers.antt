-- `name_entries::pass_fields` meets its contract: what is passed is no SQ entry.
use Prim.Native.Nat.{◌-◌}
use mathlib.Core.Path.{refl, ◌∙◌}
use native.Mathlib.Omega.{arith}
use Rattle.name_entries.proofs.NextEntry.{next_field}
use Rattle.name_entries.proofs.pass_fields.Goals as goal

pub loop-at-init : goal.loop-at-init
loop-at-init c = (omega arith, omega arith, refl)

pub overflow_sub-catalogue : goal.overflow_sub-catalogue
overflow_sub-catalogue c = omega arith

pub bounds-catalogue-at : goal.bounds-catalogue-at
bounds-catalogue-at c = omega arith

pub returns-then-catalogue-at-ne6 : goal.returns-then-catalogue-at-ne6
returns-then-catalogue-at-ne6 c = c.loop-at.invariant

pub overflow_add-at : goal.overflow_add-at
overflow_add-at c = omega arith

pub loop-at-smaller : goal.loop-at-smaller
loop-at-smaller c = omega arith

pub loop-at-preserved : goal.loop-at-preserved
loop-at-preserved c =
    let l = c.loop-at in
    (omega arith, omega arith, l.invariant.2 ∙ next_field c.args.catalogue.now l.at (omega arith) c.if-catalogue-at-ne6.false)

pub returns : goal.returns
returns c = c.loop-at.invariant
