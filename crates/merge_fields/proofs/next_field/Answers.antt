-- `merge_fields::next_field` meets its contract: what is left from the place on is what was left from the start on.
use Prim.Native.Nat.{◌+◌, ◌-◌, ◌≤◌}
use mathlib.Core.Path.{◌≡◌, refl, sym, ap, ◌∙◌}
use mathlib.Core.List.{◌∷◌}
use native.Mathlib.Omega.{arith}
use lib.ListN.{length, take, drop, get_or}
use Rattle.format.specs.Bytes.{none?}
use Rattle.accepted_line.proofs.fields.Place.{next-at, bounds}
use Rattle.merge_fields.specs.Kept.{kept_from, told_field, told_fields}
use Rattle.merge_fields.proofs.KeptFields.{kept-end, kept-later, kept-passed, kept_next}
use Rattle.merge_fields.proofs.next_field.Goals as goal
use Rattle.merge_fields.proofs.next_field.Goals.{After-field_end-end, After-kept_value-v}

-- the field of a step ends in the line
reach : (f : After-field_end-end)
    → (let a = f.args in (f.loop-i.i + 4 ≤ f.field_end-end.result) × (f.field_end-end.result ≤ length a.line.now))
reach f =
    let a = f.args in
    bounds (none? a.tables.now) a.at a.line.now f.loop-i.i f.loop-i.invariant.0 (omega arith) f.field_end-end.result f.field_end-end.ensures

pub loop-i-init : goal.loop-i-init
loop-i-init c = (c.requires.at_field, omega arith, refl)

pub field_end-end-requires : goal.field_end-end-requires
field_end-end-requires c = omega arith

pub overflow_add-first : goal.overflow_add-first
overflow_add-first c = omega (arith, reach c)

pub bounds-line-i : goal.bounds-line-i
bounds-line-i c = omega (arith, reach (goal.at.bounds-line-i c).After-field_end-end)

pub overflow_add-second : goal.overflow_add-second
overflow_add-second c = omega (arith, reach (goal.at.overflow_add-second c).After-field_end-end)

pub bounds-line-i-in-loop-i : goal.bounds-line-i-in-loop-i
bounds-line-i-in-loop-i c = omega (arith, reach (goal.at.bounds-line-i-in-loop-i c).After-field_end-end)

pub is_passed-requires : goal.is_passed-requires
is_passed-requires c = tt

pub is_first_of_tag-requires : goal.is_first_of_tag-requires
is_first_of_tag-requires c = record {
  walkable = c.requires.walkable;
  at_field = c.loop-i.invariant.0;
  i_in_bounds = omega arith;
  line_bound = omega (arith, c.requires.line_bound);
}

pub kept_value-v-requires : goal.kept_value-v-requires
kept_value-v-requires c = record {
  walkable = c.requires.walkable;
  at_field = c.loop-i.invariant.0;
  i_in_bounds = (omega arith, c.field_end-end.ensures);
  line_bound = omega (arith, c.requires.line_bound);
}

-- the field that is found
field : (c : After-kept_value-v)
    → (let a = c.args in let v = c.kept_value-v.result in
    (kept_from a.at a.line.now c.loop-i.i ≡ record { tag₀ = get_or a.line.now (c.loop-i.i + 1) 0; tag₁ = get_or a.line.now (c.loop-i.i + 2) 0; value = record { at = v.at; bytes = take v.len (drop (v.at - a.at) a.line.now) } } ∷ kept_from a.at a.line.now c.field_end-end.result)
    × (a.at ≤ v.at) × (v.at - a.at + v.len ≤ length a.line.now))
field c =
    let a = c.args in
    kept_next (none? a.tables.now) a.at a.line.now c.loop-i.i c.loop-i.invariant.0 (omega arith) c.field_end-end.result c.field_end-end.ensures
    (sym c.is_passed.ensures ∙ c.if-not-is_passed.true) (sym c.is_first_of_tag.ensures ∙ c.if-is_first_of_tag.true) c.kept_value-v.result c.kept_value-v.ensures

pub overflow_sub-result : goal.overflow_sub-result
overflow_sub-result c = omega (arith, (field (goal.at.overflow_sub-result c).After-kept_value-v).1)

pub returns-then-is_first_of_tag : goal.returns-then-is_first_of_tag
unfolding told_fields told_field
returns-then-is_first_of_tag c =
    let a = c.args in
    let v = c.kept_value-v.result in
    let z : v.at ≡ a.at + (v.at - a.at) = omega (arith, (field (goal.at.returns-then-is_first_of_tag c).After-kept_value-v).1) in record {
      list = c.loop-i.invariant.2 ∙ (field (goal.at.returns-then-is_first_of_tag c).After-kept_value-v).0 ∙ ap (λ n. record { tag₀ = get_or a.line.now (c.loop-i.i + 1) 0; tag₁ = get_or a.line.now (c.loop-i.i + 2) 0; value = record { at = n; bytes = take v.len (drop (v.at - a.at) a.line.now) } } ∷ kept_from a.at a.line.now c.field_end-end.result) z;
      place = record {
        value = (field (goal.at.returns-then-is_first_of_tag c).After-kept_value-v).2;
        here = next-at (none? a.tables.now) a.at a.line.now c.loop-i.i c.loop-i.invariant.0 (omega arith) c.field_end-end.result c.field_end-end.ensures;
        onward = omega (arith, reach (goal.at.returns-then-is_first_of_tag c).After-field_end-end, c.loop-i.invariant.1);
      };
    }

pub loop-i-smaller-else-is_first_of_tag : goal.loop-i-smaller-else-is_first_of_tag
loop-i-smaller-else-is_first_of_tag c = omega (arith, reach (goal.at.loop-i-smaller-else-is_first_of_tag c).After-field_end-end)

pub loop-i-preserved-else-is_first_of_tag : goal.loop-i-preserved-else-is_first_of_tag
loop-i-preserved-else-is_first_of_tag c =
    let a = c.args in (
      next-at (none? a.tables.now) a.at a.line.now c.loop-i.i c.loop-i.invariant.0 (omega arith) c.field_end-end.result c.field_end-end.ensures,
      omega (arith, reach (goal.at.loop-i-preserved-else-is_first_of_tag c).After-field_end-end, c.loop-i.invariant.1),
      c.loop-i.invariant.2 ∙ kept-later (none? a.tables.now) a.at a.line.now c.loop-i.i c.loop-i.invariant.0 (omega arith) c.field_end-end.result c.field_end-end.ensures (sym c.is_first_of_tag.ensures ∙ c.if-is_first_of_tag.false),
    )

pub loop-i-smaller : goal.loop-i-smaller
loop-i-smaller c = omega (arith, reach (goal.at.loop-i-smaller c).After-field_end-end)

pub loop-i-preserved : goal.loop-i-preserved
loop-i-preserved c =
    let a = c.args in (
      next-at (none? a.tables.now) a.at a.line.now c.loop-i.i c.loop-i.invariant.0 (omega arith) c.field_end-end.result c.field_end-end.ensures,
      omega (arith, reach (goal.at.loop-i-preserved c).After-field_end-end, c.loop-i.invariant.1),
      c.loop-i.invariant.2 ∙ kept-passed (none? a.tables.now) a.at a.line.now c.loop-i.i c.loop-i.invariant.0 (omega arith) c.field_end-end.result c.field_end-end.ensures (sym c.is_passed.ensures ∙ c.if-not-is_passed.false),
    )

pub returns : goal.returns
unfolding told_fields
returns c =
    let a = c.args in record {
      list = c.loop-i.invariant.2 ∙ kept-end (none? a.tables.now) a.at a.line.now c.loop-i.i c.loop-i.invariant.0 c.loop-i-test.false;
      place = tt;
    }
