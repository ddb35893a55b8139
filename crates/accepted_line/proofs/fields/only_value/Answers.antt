-- `accepted_line::fields::only_value` meets its contract: what is the last value from the place on is what is still asked.
use Prim.Native.Nat.{ℕ, ◌+◌, ◌≤◌}
use mathlib.Core.Path.{◌≡◌, refl, sym, ap₂, ◌∙◌}
use mathlib.Core.Bool.{true, ◌&&◌}
use mathlib.Core.List.{List, []}
use native.Mathlib.Omega.{arith}
use lib.ListN.{length, get_or}
use lib.Dec.{eqb}
use borrow.Author.Tests.{eqb-true}
use Rattle.format.specs.Fields.{Field, last_of}
use Rattle.lists.proofs.Bools.{and_left, and_right}
use Rattle.accepted_line.specs.Run.{fields_from}
use Rattle.accepted_line.specs.Next.{or_value, no_value, last_in, value_at, kept_at}
use Rattle.accepted_line.proofs.fields.Here.{ended}
use Rattle.accepted_line.proofs.fields.Place.{next-at, bounds, same_at, other_at, own_at}
use Rattle.accepted_line.proofs.fields.only_value.Goals as goal
use Rattle.accepted_line.proofs.fields.only_value.Goals.{After-field_end-end}

none_left : (a b : ℕ) (fs : List Field) → fs ≡ [] → or_value no_value (last_of a b fs) ≡ no_value
unfolding or_value last_of
none_left a b fs e = rw e refl

-- the tag of the field at `i` is `a`, `b`
kept_same : (at : ℕ) (line : List ℕ) (i end a b : ℕ) → eqb (get_or line (i + 1) 0) a && eqb (get_or line (i + 2) 0) b ≡ true
    → kept_at at line i end ≡ or_value (value_at at i end) (last_of a b (fields_from at line end))
unfolding kept_at
kept_same at line i end a b h =
    let x = eqb (get_or line (i + 1) 0) a in
    let y = eqb (get_or line (i + 2) 0) b in
    ap₂ (λ c d. or_value (value_at at i end) (last_of c d (fields_from at line end))) (eqb-true _ _ (and_left x y h)) (eqb-true _ _ (and_right x y h))

-- the field of a step ends in the line
reach : (c : After-field_end-end) → ((c.loop-i.i + 4 ≤ c.field_end-end.result) × (c.field_end-end.result ≤ length c.args.line.now))
reach c =
    let a = c.args in
    bounds true a.at a.line.now c.loop-i.i c.loop-i.invariant.0 (omega arith) c.field_end-end.result c.field_end-end.ensures

pub loop-i-init : goal.loop-i-init
unfolding last_in
loop-i-init c = (c.requires.at_field, refl)

pub field_end-end-requires : goal.field_end-end-requires
field_end-end-requires c = omega arith

pub overflow_add-i : goal.overflow_add-i
overflow_add-i c = omega (arith, reach c)

pub bounds-line-i : goal.bounds-line-i
bounds-line-i c = omega (arith, reach (goal.at.bounds-line-i c).After-field_end-end)

pub overflow_add-i-in-loop-i : goal.overflow_add-i-in-loop-i
overflow_add-i-in-loop-i c = omega (arith, reach (goal.at.overflow_add-i-in-loop-i c).After-field_end-end)

pub bounds-line-i-in-loop-i : goal.bounds-line-i-in-loop-i
bounds-line-i-in-loop-i c = omega (arith, reach (goal.at.bounds-line-i-in-loop-i c).After-field_end-end)

pub is_same_tag-requires : goal.is_same_tag-requires
is_same_tag-requires c = tt

pub value_at-requires : goal.value_at-requires
value_at-requires c =
    ((reach (goal.at.value_at-requires c).After-field_end-end).0, omega (arith, reach (goal.at.value_at-requires c).After-field_end-end, c.requires.line_bound))

pub returns-then-is_same_tag : goal.returns-then-is_same_tag
returns-then-is_same_tag c =
    let a = c.args in
    let hit = sym c.is_same_tag.ensures ∙ c.if-is_same_tag.true in
    c.value_at.ensures
    ∙ sym
    (c.loop-i.invariant.1
    ∙ same_at true a.at a.line.now c.loop-i.i c.loop-i.invariant.0 (omega arith) c.field_end-end.result c.field_end-end.ensures a.a a.b no_value hit
    ∙ sym (kept_same a.at a.line.now c.loop-i.i c.field_end-end.result a.a a.b hit)
    ∙ own_at true a.at a.line.now c.loop-i.i c.loop-i.invariant.0 (omega arith) c.field_end-end.result c.field_end-end.ensures refl)

pub loop-i-smaller : goal.loop-i-smaller
loop-i-smaller c = omega (arith, reach (goal.at.loop-i-smaller c).After-field_end-end)

pub loop-i-preserved : goal.loop-i-preserved
loop-i-preserved c =
    let a = c.args in (
      next-at true a.at a.line.now c.loop-i.i c.loop-i.invariant.0 (omega arith) c.field_end-end.result c.field_end-end.ensures,
      c.loop-i.invariant.1
          ∙ other_at true a.at a.line.now c.loop-i.i c.loop-i.invariant.0 (omega arith) c.field_end-end.result c.field_end-end.ensures a.a a.b no_value (sym c.is_same_tag.ensures ∙ c.if-is_same_tag.false),
    )

pub returns : goal.returns
returns c =
    let a = c.args in
    sym (c.loop-i.invariant.1 ∙ none_left a.a a.b _ (ended true a.at a.line.now c.loop-i.i c.loop-i.invariant.0 c.loop-i-test.false))
