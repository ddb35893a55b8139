-- `accepted_line::fields::noted_value` meets its contract: the tables say where the last field with the tag starts.
use Prim.Native.Nat.{◌+◌, ◌<◌}
use mathlib.Core.Path.{◌≡◌, sym, ap, subst, ◌∙◌}
use mathlib.Core.Bool.{false}
use native.Mathlib.Omega.{arith}
use lib.ListN.{length, get_or}
use Rattle.accepted_line.specs.Number.{tag_number}
use Rattle.accepted_line.proofs.tag_number.Apart.{tag_below}
use Rattle.accepted_line.specs.Next.{value_at}
use Rattle.accepted_line.proofs.fields.Noted.{tables-size, There, noted-nowhere, noted-there}
use Rattle.accepted_line.proofs.fields.Place.{bounds}
use Rattle.accepted_line.proofs.fields.noted_value.Goals as goal
use Rattle.accepted_line.proofs.fields.noted_value.Goals.{After-tag_number, Else-place-eq0}

-- the number of the tag
number : (c : After-tag_number) → ((c.tag_number.result < 3224) × (length c.args.tables.now ≡ 6448))
number c =
    let a = c.args in (
      omega (arith, c.tag_number.ensures, tag_below a.a a.b c.requires.b_value),
      tables-size a.at a.line.now a.tables.now c.requires.noted,
    )

-- what the tables have there
told : (c : After-tag_number) → (let a = c.args in get_or a.tables.now (3224 + c.tag_number.result) 0 ≡ get_or a.tables.now (3224 + tag_number a.a a.b) 0)
told c = ap (λ n. get_or c.args.tables.now (3224 + n) 0) c.tag_number.ensures

-- a field starts there
there : (c : Else-place-eq0) → (let a = c.args in There a.at a.line.now a.a a.b (get_or a.tables.now (3224 + c.tag_number.result) 0))
there c =
    let a = c.args in
    subst (There a.at a.line.now a.a a.b) (sym (told (goal.at.Else-place-eq0 c).After-tag_number))
    (noted-there a.at a.line.now a.a a.b c.requires.b_value c.requires.at_field a.tables.now c.requires.noted (λ z. c.if-place-eq0.false (told (goal.at.Else-place-eq0 c).After-tag_number ∙ z)))

pub overflow_add-place : goal.overflow_add-place
overflow_add-place c = omega (arith, number c)

pub offset_bounds-tables-tag_number : goal.offset_bounds-tables-tag_number
offset_bounds-tables-tag_number c = omega (arith, number c)

pub bounds-tables-tag_number : goal.bounds-tables-tag_number
bounds-tables-tag_number c = omega (arith, number (goal.at.bounds-tables-tag_number c).After-tag_number)

pub overflow_cast-place : goal.overflow_cast-place
overflow_cast-place c = omega (arith, c.shared_slice_known-3-1.given (3224 + c.tag_number.result))

pub returns-then-place-eq0 : goal.returns-then-place-eq0
returns-then-place-eq0 c =
    let a = c.args in
    noted-nowhere a.at a.line.now a.a a.b c.requires.b_value c.requires.at_field a.tables.now c.requires.noted (sym (told (goal.at.returns-then-place-eq0 c).After-tag_number) ∙ c.if-place-eq0.true)

pub overflow_sub-i : goal.overflow_sub-i
overflow_sub-i c = (there c).from

pub field_end-requires : goal.field_end-requires
field_end-requires c = (there c).within

pub value_at-requires : goal.value_at-requires
value_at-requires c =
    let a = c.args in
    let b = bounds false a.at a.line.now _ (there (goal.at.value_at-requires c).Else-place-eq0).here (there (goal.at.value_at-requires c).Else-place-eq0).within c.field_end.result c.field_end.ensures in
    (b.0, omega (arith, b.1, c.requires.line_bound))

pub returns : goal.returns
returns c =
    c.value_at.ensures ∙ ap (value_at _ _) c.field_end.ensures ∙ (there (goal.at.returns c).Else-place-eq0).value
