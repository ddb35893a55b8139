-- `merge_fields::same_walks` meets its contract: what is left of both lines decides.
use Prim.Native.Nat.{ℕ}
use mathlib.Core.Path.{◌≡◌, refl, sym, ap, ◌∙◌}
use mathlib.Core.Bool.{Bool, true, false, false≢true, not, ◌&&◌}
use native.Mathlib.Omega.{arith}
use mathlib.Core.List.{List, []}
use Rattle.std.specs.Prelude.{Option, None, Some, is_some}
use Rattle.format.specs.Fields.{Field}
use Rattle.merge_fields.specs.declared.NextField.{NextField}
use Rattle.format.specs.Merge.{same_field, keeps_fields}
use Rattle.merge_fields.specs.Kept.{kept_from, told_field, told_fields}
use Rattle.merge_fields.proofs.KeptFields.{told-one, told_none}
use Rattle.merge_fields.proofs.Walks.{both_end, first_ends, second-ends, both-go-on}
use Rattle.merge_fields.proofs.same_walks.Goals as goal
use Rattle.merge_fields.proofs.same_walks.Goals.{After-same_field}

pub loop-f-init : goal.loop-f-init
loop-f-init c = (c.requires.walkable.start, c.requires.walkable_2.start, refl)

pub next_field-requires : goal.next_field-requires
next_field-requires c = record {
  walkable = c.requires.walkable;
  at_field = c.loop-f.invariant.0;
  line_bound = c.requires.a_bound;
}

pub returns-in_default-next_field : goal.returns-in_default-next_field
returns-in_default-next_field c =
    let a = c.args in
    let x = c.in-Some.f in
    sym
    (c.loop-f.invariant.2
    ∙ second-ends _ _ (told_field a.at_a a.a.now x) (kept_from a.at_a a.a.now x.next) (c.in-Some.ensures.list ∙ told-one a.at_a a.a.now x)
    (c.in_default-next_field.ensures.list ∙ told_none a.at_b a.b.now))

pub same_field-requires : goal.same_field-requires
same_field-requires c = record {
  len_in_bounds = c.in-Some.ensures.place.value;
  len_in_bounds_2 = c.in-Some-next_field.ensures.place.value;
}

-- the fields of a step decide, and then those that are left
told : (c : After-same_field)
    → (let a = c.args in
    keeps_fields (kept_from a.at_a a.a.now 3) (kept_from a.at_b a.b.now 3)
    ≡ c.same_field.result && keeps_fields (kept_from a.at_a a.a.now c.in-Some.f.next) (kept_from a.at_b a.b.now c.in-Some-next_field.g.next))
unfolding same_field told_field
told c =
    let a = c.args in
    let x = c.in-Some.f in
    let y = c.in-Some-next_field.g in
    let fs = kept_from a.at_a a.a.now x.next in
    let gs = kept_from a.at_b a.b.now y.next in
    c.loop-f.invariant.2
    ∙ both-go-on _ _ (told_field a.at_a a.a.now x) (told_field a.at_b a.b.now y) fs gs
    (c.in-Some.ensures.list ∙ told-one a.at_a a.a.now x)
    (c.in-Some-next_field.ensures.list ∙ told-one a.at_b a.b.now y)
    ∙ ap (λ b. b && keeps_fields fs gs) (sym c.same_field.ensures)

pub returns-then-not-same_field : goal.returns-then-not-same_field
returns-then-not-same_field c =
    let a = c.args in
    sym (told (goal.at.returns-then-not-same_field c).After-same_field ∙ ap (λ b. b && keeps_fields (kept_from a.at_a a.a.now c.in-Some.f.next) (kept_from a.at_b a.b.now c.in-Some-next_field.g.next)) c.if-not-same_field.true)

pub loop-f-smaller : goal.loop-f-smaller
loop-f-smaller c =
    let x = c.in-Some.f in
    omega (arith, c.in-Some.ensures.place.onward, c.in-Some.ensures.place.here.within)

pub loop-f-preserved : goal.loop-f-preserved
loop-f-preserved c =
    let a = c.args in (
      c.in-Some.ensures.place.here,
      c.in-Some-next_field.ensures.place.here,
      told (goal.at.loop-f-preserved c).After-same_field ∙ ap (λ b. b && keeps_fields (kept_from a.at_a a.a.now c.in-Some.f.next) (kept_from a.at_b a.b.now c.in-Some-next_field.g.next)) c.if-not-same_field.false,
    )

-- no field is left of the first line
spent : (at : ℕ) (line : List ℕ) (y : Option NextField) (b : Bool) → is_some y ≡ not b → (fs : List Field) → fs ≡ [] → keeps_fields fs (told_fields at line y) ≡ b
spent at line None true h fs e = both_end _ _ e (told_none at line)
spent at line None false h fs e = absurd (false≢true h)
spent at line (Some g) true h fs e = absurd (false≢true (sym h))
spent at line (Some g) false h fs e = first_ends _ _ (told_field at line g) (kept_from at line g.next) e (told-one at line g)

pub returns : goal.returns
returns c =
    let a = c.args in
    sym
    (c.loop-f.invariant.2
    ∙ ap (keeps_fields (kept_from a.at_a a.a.now c.loop-f.i)) c.next_field-2.ensures.list
    ∙ spent a.at_b a.b.now c.next_field-2.result c.is_none.result c.is_none.ensures _ (c.in_default.ensures.list ∙ told_none a.at_a a.a.now))
