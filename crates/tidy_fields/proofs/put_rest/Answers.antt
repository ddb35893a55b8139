-- `tidy_fields::put_rest` meets its contract: what is written, and what the fields still to come have, is all; an LF follows.
use Prim.Native.Nat.{◌+◌, ◌-◌, ◌≤◌}
use mathlib.Core.Path.{refl, sym, ap, ◌∙◌}
use mathlib.Core.List.{[], ◌∷◌}
use native.Mathlib.Omega.{arith}
use lib.ListN.{length, take, drop, get_or, length-append}
use Rattle.format.specs.Tidy.{field_text}
use Rattle.byte_slices.specs.Over.{over}
use Rattle.byte_slices.proofs.Over.{over_none}
use Rattle.format.specs.Bytes.{none?}
use Rattle.accepted_line.specs.Run.{AtField}
use Rattle.accepted_line.proofs.fields.Place.{next-at, bounds}
use Rattle.tidy_fields.specs.Others.{others_text}
use Rattle.tidy_parts.proofs.Wrote.{Wrote, wrote-onward, wrote_then, wrote_one}
use Rattle.tidy_fields.proofs.Others.{rest_text, rest_all, rest-none, rest-past, rest_more, rest-size, value-inside}
use Rattle.tidy_fields.proofs.put_rest.Goals as goal
use Rattle.tidy_fields.proofs.put_rest.Goals.{After-field_end-end, After-kept_value-v, At-loop-i}

-- the field of a step ends in the line
reach : (f : After-field_end-end)
    → ((f.loop-i.i + 4 ≤ f.field_end-end.result) × (f.field_end-end.result ≤ length f.args.line.now))
reach f =
    let a = f.args in
    bounds (none? a.tables.now) a.at a.line.now f.loop-i.i f.loop-i.invariant.0 (omega arith) f.field_end-end.result f.field_end-end.ensures

-- and the walk goes on from there
onward : (f : After-field_end-end) → (let a = f.args in AtField (none? a.tables.now) a.at a.line.now f.field_end-end.result)
onward f =
    let a = f.args in
    next-at (none? a.tables.now) a.at a.line.now f.loop-i.i f.loop-i.invariant.0 (omega arith) f.field_end-end.result f.field_end-end.ensures

pub loop-i-init : goal.loop-i-init
loop-i-init c =
    let a = c.args in
    let e = rest_all a.kind a.at a.line.now in
    (c.requires.walkable.start, ap (λ l. a.o + length l) e, ap (over a.out.now a.o) e, refl)

pub field_end-end-requires : goal.field_end-end-requires
field_end-end-requires c = omega arith

pub overflow_add-a : goal.overflow_add-a
overflow_add-a c = omega (arith, reach c)

pub bounds-line-i : goal.bounds-line-i
bounds-line-i c = omega (arith, reach (goal.at.bounds-line-i c).After-field_end-end)

pub overflow_add-b : goal.overflow_add-b
overflow_add-b c = omega (arith, reach (goal.at.overflow_add-b c).After-field_end-end)

pub bounds-line-i-in-loop-i : goal.bounds-line-i-in-loop-i
bounds-line-i-in-loop-i c = omega (arith, reach (goal.at.bounds-line-i-in-loop-i c).After-field_end-end)

pub is_other-requires : goal.is_other-requires
is_other-requires c = record {
  walkable = c.requires.walkable;
  at_field = c.loop-i.invariant.0;
  i_in_bounds = omega arith;
  line_bound = c.requires.line_bound;
}

pub kept_value-v-requires : goal.kept_value-v-requires
kept_value-v-requires c = record {
  walkable = c.requires.walkable;
  at_field = c.loop-i.invariant.0;
  i_in_bounds = (omega arith, c.field_end-end.ensures);
  line_bound = omega (arith, c.requires.line_bound);
}

-- the value of the field is in the line
value : (c : After-kept_value-v)
    → (let a = c.args in let v = c.kept_value-v.result in
    (a.at ≤ v.at) × (v.at - a.at + v.len ≤ length a.line.now))
value c =
    let a = c.args in
    value-inside (none? a.tables.now) a.at a.line.now a.kind c.loop-i.i c.loop-i.invariant.0 (omega arith) c.field_end-end.result c.field_end-end.ensures (sym c.is_other.ensures ∙ c.if-is_other.true) c.kept_value-v.result c.kept_value-v.ensures

pub overflow_sub-v : goal.overflow_sub-v
overflow_sub-v c = (value (goal.at.overflow_sub-v c).After-kept_value-v).0

pub put_field-n-requires : goal.put_field-n-requires
put_field-n-requires c =
    let a = c.args in
    let size = rest-size (none? a.tables.now) a.at a.line.now a.kind c.loop-i.i c.loop-i.invariant.0 (omega arith) c.field_end-end.result c.field_end-end.ensures (sym c.is_other.ensures ∙ c.if-is_other.true) c.kept_value-v.result c.kept_value-v.ensures in record {
      len_in_bounds = (value (goal.at.put_field-n-requires c).After-kept_value-v).1;
      len_in_bounds_2 = omega (arith, c.requires.line_in_bounds, c.loop-i.invariant.1, c.loop-i.invariant.3, size);
    }

pub loop-i-smaller-then-is_other : goal.loop-i-smaller-then-is_other
loop-i-smaller-then-is_other c = omega (arith, reach (goal.at.loop-i-smaller-then-is_other c).After-field_end-end)

pub loop-i-preserved-then-is_other : goal.loop-i-preserved-then-is_other
loop-i-preserved-then-is_other c =
    let a = c.args in
    let v = c.kept_value-v.result in
    let xs = field_text (get_or a.line.now (c.loop-i.i + 1) 0) (get_or a.line.now (c.loop-i.i + 2) 0) (take v.len (drop (v.at - a.at) a.line.now)) in
    let ys = rest_text a.kind a.at a.line.now c.field_end-end.result in
    let r = rest_more (none? a.tables.now) a.at a.line.now a.kind c.loop-i.i c.loop-i.invariant.0 (omega arith) c.field_end-end.result c.field_end-end.ensures (sym c.is_other.ensures ∙ c.if-is_other.true) v c.kept_value-v.ensures in
    let z = ap length r ∙ length-append xs ys in (
      onward (goal.at.loop-i-preserved-then-is_other c).After-field_end-end,
      omega (arith, z, c.put_field-n.ensures.next, c.loop-i.invariant.1),
      wrote-onward c.loop-i.out c.put_field-n.new.out c.loop-i.n c.put_field-n.result (rest_text a.kind a.at a.line.now c.loop-i.i) xs ys r (c.put_field-n.ensures.next, c.put_field-n.ensures.wrote) (omega (arith, z, c.loop-i.invariant.1, c.loop-i.invariant.3, c.requires.line_in_bounds))
          ∙ c.loop-i.invariant.2,
      c.put_field-n.auto.out ∙ c.loop-i.invariant.3,
    )

pub loop-i-smaller : goal.loop-i-smaller
loop-i-smaller c = omega (arith, reach (goal.at.loop-i-smaller c).After-field_end-end)

pub loop-i-preserved : goal.loop-i-preserved
loop-i-preserved c =
    let a = c.args in
    let e = rest-past (none? a.tables.now) a.at a.line.now a.kind c.loop-i.i c.loop-i.invariant.0 (omega arith) c.field_end-end.result c.field_end-end.ensures (sym c.is_other.ensures ∙ c.if-is_other.false) in
    (onward (goal.at.loop-i-preserved c).After-field_end-end, ap (λ x. c.loop-i.n + length x) (sym e) ∙ c.loop-i.invariant.1, ap (over c.loop-i.out c.loop-i.n) (sym e) ∙ c.loop-i.invariant.2, c.loop-i.invariant.3)

-- all of them are written
written : (l : At-loop-i)
    → (let a = l.args in length a.line.now ≤ l.loop-i.i → Wrote a.out.now a.o l.loop-i.out l.loop-i.n (others_text a.kind a.at a.line.now))
written l h =
    let a = l.args in
    let e = rest-none (none? a.tables.now) a.at a.line.now a.kind l.loop-i.i l.loop-i.invariant.0 h in
    (omega (arith, l.loop-i.invariant.1, ap length e), sym (over_none l.loop-i.out l.loop-i.n) ∙ ap (over l.loop-i.out l.loop-i.n) (sym e) ∙ l.loop-i.invariant.2)

pub bounds-out-n : goal.bounds-out-n
bounds-out-n c =
    omega (arith, (written (goal.at.bounds-out-n c).At-loop-i c.loop-i-test.false).0, c.loop-i.invariant.3, c.requires.line_in_bounds)

pub returns : goal.returns
returns c =
    let w = written (goal.at.returns c).At-loop-i c.loop-i-test.false in
    let a = c.args in
    let others = others_text a.kind a.at a.line.now in
    let told = wrote_then a.out.now a.o _ _ _ _ others (10 ∷ []) w
    (refl, wrote_one c.loop-i.out c.loop-i.n 10 (omega (arith, w.0, c.loop-i.invariant.3, c.requires.line_in_bounds)))
    (omega (arith, length-append others (10 ∷ []), c.requires.line_in_bounds)) in
    record { next = told.0; wrote = told.1 }
