-- `accepted_line::fields::is_spread` meets its contract: what the marks and the fields from the place on say stays.
use Prim.Native.Nat.{◌+◌, ◌%◌, ◌≤◌}
use mathlib.Core.Path.{◌≡◌, refl, sym, ◌∙◌}
use mathlib.Core.Bool.{Bool, true, false, cond}
use mathlib.Core.List.{List, []}
use native.Mathlib.Omega.{arith}
use lib.ListN.{length, set, length-set, length-replicate}
use Rattle.format.specs.Fields.{Field}
use Rattle.accepted_line.specs.Run.{fields_from}
use Rattle.accepted_line.specs.Tables.{spread}
use Rattle.accepted_line.proofs.fields.Here.{ended}
use Rattle.accepted_line.proofs.fields.Spread.{slot-below}
use Rattle.accepted_line.proofs.fields.Place.{next-at, bounds, spread_at}
use Rattle.accepted_line.proofs.fields.is_spread.Goals as goal
use Rattle.accepted_line.proofs.fields.is_spread.Goals.{After-field_end-end, After-tag_number-n}

none_left : (seen : List Bool) (fs : List Field) → fs ≡ [] → spread seen fs ≡ true
unfolding spread
none_left seen fs e = rw e refl

-- the field of a step ends in the line
reach : (c : After-field_end-end) → ((c.loop-i.i + 4 ≤ c.field_end-end.result) × (c.field_end-end.result ≤ length c.args.line.now))
reach c =
    let a = c.args in
    bounds false a.at a.line.now c.loop-i.i c.loop-i.invariant.0 (omega arith) c.field_end-end.result c.field_end-end.ensures

-- what is answered with it
told : (c : After-tag_number-n)
    → (let a = c.args in let n = c.tag_number-n.result % 112 in
    spread c.loop-i.seen (fields_from a.at a.line.now c.loop-i.i) ≡ cond (lib.ListN.get_or c.loop-i.seen n false) false (spread (set c.loop-i.seen n true) (fields_from a.at a.line.now c.field_end-end.result)))
told c =
    let a = c.args in
    spread_at false a.at a.line.now c.loop-i.i c.loop-i.invariant.0 (omega arith) c.field_end-end.result c.field_end-end.ensures c.loop-i.seen c.tag_number-n.result c.tag_number-n.ensures

pub loop-i-init : goal.loop-i-init
loop-i-init c = (c.requires.at_field, length-replicate 112 false, refl)

pub field_end-end-requires : goal.field_end-end-requires
field_end-end-requires c = omega arith

pub overflow_add-i : goal.overflow_add-i
overflow_add-i c = omega (arith, reach c)

pub bounds-line-i : goal.bounds-line-i
bounds-line-i c = omega (arith, reach (goal.at.bounds-line-i c).After-field_end-end)

pub overflow_add-i-in-loop-i : goal.overflow_add-i-in-loop-i
overflow_add-i-in-loop-i c = omega (arith, reach (goal.at.overflow_add-i-in-loop-i c).After-field_end-end)

pub bounds-line-i-in-loop-i : goal.bounds-line-i-in-loop-i
bounds-line-i-in-loop-i c = omega (arith, reach (goal.at.bounds-line-i-in-loop-i c).After-field_end-end)

pub tag_number-n-requires : goal.tag_number-n-requires
tag_number-n-requires c = tt

pub bounds-seen-n : goal.bounds-seen-n
bounds-seen-n c = omega (arith, slot-below c.tag_number-n.result, c.loop-i.invariant.1)

pub returns-then-seen-n : goal.returns-then-seen-n
returns-then-seen-n c =
    sym (sym c.loop-i.invariant.2 ∙ told (goal.at.returns-then-seen-n c).After-tag_number-n ∙ rw c.if-seen-n.true refl)

pub bounds-seen-n-in-loop-i : goal.bounds-seen-n-in-loop-i
bounds-seen-n-in-loop-i c = omega (arith, slot-below c.tag_number-n.result, c.loop-i.invariant.1)

pub loop-i-smaller : goal.loop-i-smaller
loop-i-smaller c = omega (arith, reach (goal.at.loop-i-smaller c).After-field_end-end)

pub loop-i-preserved : goal.loop-i-preserved
loop-i-preserved c =
    let a = c.args in (
      next-at false a.at a.line.now c.loop-i.i c.loop-i.invariant.0 (omega arith) c.field_end-end.result c.field_end-end.ensures,
      length-set c.loop-i.seen (c.tag_number-n.result % 112) true ∙ c.loop-i.invariant.1,
      sym (told (goal.at.loop-i-preserved c).After-tag_number-n ∙ rw c.if-seen-n.false refl) ∙ c.loop-i.invariant.2,
    )

pub returns : goal.returns
returns c =
    let a = c.args in
    sym (sym c.loop-i.invariant.2 ∙ none_left c.loop-i.seen _ (ended false a.at a.line.now c.loop-i.i c.loop-i.invariant.0 c.loop-i-test.false))
