-- `tidy_fields::other_fields_len` meets its contract: what is counted, and what the fields still to come have, is all.
use Prim.Native.Nat.{◌+◌, ◌-◌, ◌≤◌}
use mathlib.Core.Path.{◌≡◌, sym, ap, ◌∙◌}
use native.Mathlib.Omega.{arith}
use lib.ListN.{length}
use Rattle.format.specs.Bytes.{none?}
use Rattle.accepted_line.specs.Run.{AtField}
use Rattle.accepted_line.proofs.fields.Place.{next-at, bounds}
use Rattle.tidy_fields.specs.Others.{others_text}
use Rattle.tidy_fields.proofs.Others.{rest_text, rest_all, rest-none, rest-past, rest-size, others-short}
use Rattle.tidy_fields.proofs.other_fields_len.Goals as goal
use Rattle.tidy_fields.proofs.other_fields_len.Goals.{After-field_end-end, After-kept_value-v}

-- the field of a step ends in the line
reach : (f : After-field_end-end) → ((f.loop-i.i + 4 ≤ f.field_end-end.result) × (f.field_end-end.result ≤ length f.args.line.now))
reach f =
    let a = f.args in
    bounds (none? a.tables.now) a.at a.line.now f.loop-i.i f.loop-i.invariant.0 (omega arith) f.field_end-end.result f.field_end-end.ensures

-- and the walk goes on from there
onward : (f : After-field_end-end) → (let a = f.args in AtField (none? a.tables.now) a.at a.line.now f.field_end-end.result)
onward f =
    let a = f.args in
    next-at (none? a.tables.now) a.at a.line.now f.loop-i.i f.loop-i.invariant.0 (omega arith) f.field_end-end.result f.field_end-end.ensures

-- what is counted with a field, and with those after it
counted : (c : After-kept_value-v)
    → (let a = c.args in
    (c.loop-i.n + (4 + c.kept_value-v.result.len) + length (rest_text a.kind a.at a.line.now c.field_end-end.result) ≡ length (others_text a.kind a.at a.line.now))
    × (length (others_text a.kind a.at a.line.now) ≤ length a.line.now))
counted c =
    let a = c.args in
    let size = rest-size (none? a.tables.now) a.at a.line.now a.kind c.loop-i.i c.loop-i.invariant.0 (omega arith) c.field_end-end.result c.field_end-end.ensures (sym c.is_other.ensures ∙ c.if-is_other.true) c.kept_value-v.result c.kept_value-v.ensures in
    (omega (arith, c.loop-i.invariant.1, size), others-short (none? a.tables.now) a.at a.line.now a.kind c.requires.walkable.start)

pub loop-i-init : goal.loop-i-init
loop-i-init c = (c.requires.walkable.start, omega (arith, ap length (rest_all c.args.kind c.args.at c.args.line.now)))

pub field_end-end-requires : goal.field_end-end-requires
field_end-end-requires c = omega arith

pub is_other-requires : goal.is_other-requires
is_other-requires c = record {
  walkable = c.requires.walkable;
  at_field = c.loop-i.invariant.0;
  i_in_bounds = omega arith;
  line_bound = c.requires.line_bound;
}

pub kept_value-v-requires : goal.kept_value-v-requires
kept_value-v-requires c = record {
  walkable = c.requires.walkable;
  at_field = c.loop-i.invariant.0;
  i_in_bounds = (omega arith, c.field_end-end.ensures);
  line_bound = omega (arith, c.requires.line_bound);
}

pub overflow_add-n : goal.overflow_add-n
overflow_add-n c = omega (arith, counted c)

pub overflow_add-n-then-is_other : goal.overflow_add-n-then-is_other
overflow_add-n-then-is_other c = omega (arith, counted (goal.at.overflow_add-n-then-is_other c).After-kept_value-v)

pub loop-i-smaller-then-is_other : goal.loop-i-smaller-then-is_other
loop-i-smaller-then-is_other c = omega (arith, reach (goal.at.loop-i-smaller-then-is_other c).After-field_end-end)

pub loop-i-preserved-then-is_other : goal.loop-i-preserved-then-is_other
loop-i-preserved-then-is_other c = (onward (goal.at.loop-i-preserved-then-is_other c).After-field_end-end, omega (arith, (counted (goal.at.loop-i-preserved-then-is_other c).After-kept_value-v).0))

pub loop-i-smaller : goal.loop-i-smaller
loop-i-smaller c = omega (arith, reach (goal.at.loop-i-smaller c).After-field_end-end)

pub loop-i-preserved : goal.loop-i-preserved
loop-i-preserved c =
    let a = c.args in
    let e = rest-past (none? a.tables.now) a.at a.line.now a.kind c.loop-i.i c.loop-i.invariant.0 (omega arith) c.field_end-end.result c.field_end-end.ensures (sym c.is_other.ensures ∙ c.if-is_other.false) in
    (onward (goal.at.loop-i-preserved c).After-field_end-end, ap (λ x. c.loop-i.n + length x) (sym e) ∙ c.loop-i.invariant.1)

pub returns : goal.returns
returns c =
    let a = c.args in
    omega (arith, c.loop-i.invariant.1, ap length (rest-none (none? a.tables.now) a.at a.line.now a.kind c.loop-i.i c.loop-i.invariant.0 c.loop-i-test.false))
