-- `accepted_line::fields::is_first_of_tag` meets its contract: where no tag is repeated it is known, and otherwise the tables say.
use Prim.Native.Nat.{◌+◌, ◌≤◌, ◌<◌}
use mathlib.Core.Path.{◌≡◌, refl, sym, ap, ◌∙◌}
use native.Mathlib.Omega.{arith}
use lib.ListN.{length, get_or}
use lib.Dec.{eqb}
use Rattle.format.specs.Bytes.{none?}
use Rattle.accepted_line.proofs.tag_number.Apart.{tag_below}
use Rattle.accepted_line.specs.Tables.{Noted}
use Rattle.accepted_line.proofs.fields.Noted.{tables-size}
use Rattle.accepted_line.proofs.fields.Place.{bounds, first-at, tag_at, first-tabled}
use Rattle.accepted_line.proofs.fields.is_first_of_tag.Goals as goal
use Rattle.accepted_line.proofs.fields.is_first_of_tag.Goals.{After-tag_number, Else-has_no_repeat, Start}

-- the field has a tag
reach : (s : Start) → (let a = s.args in a.i + 4 ≤ length a.line.now)
reach s =
    let a = s.args in
    let b = bounds (none? a.tables.now) a.at a.line.now a.i s.requires.at_field s.requires.i_in_bounds _ refl in
    omega (arith, b)

-- the tables are lent
lent : (c : Else-has_no_repeat) → (let a = c.args in Noted a.at a.line.now a.tables.now)
lent c = c.requires.walkable.tables (sym c.has_no_repeat.ensures ∙ c.if-has_no_repeat.false)

number : (c : After-tag_number) → ((c.tag_number.result < 3224) × (length c.args.tables.now ≡ 6448))
number c =
    let a = c.args in (
      omega (arith, c.tag_number.ensures, tag_below _ _ (tag_at (none? a.tables.now) a.at a.line.now a.i c.requires.at_field c.requires.i_in_bounds _ refl a.tables.now (lent (goal.at.After-tag_number c).Else-has_no_repeat))),
      tables-size a.at a.line.now a.tables.now (lent (goal.at.After-tag_number c).Else-has_no_repeat),
    )

pub has_no_repeat-requires : goal.has_no_repeat-requires
has_no_repeat-requires c = tt

pub returns-then-has_no_repeat : goal.returns-then-has_no_repeat
returns-then-has_no_repeat c =
    let a = c.args in
    sym (first-at (none? a.tables.now) a.at a.line.now a.i c.requires.at_field c.requires.i_in_bounds _ refl (sym c.has_no_repeat.ensures ∙ c.if-has_no_repeat.true))

pub overflow_add-i : goal.overflow_add-i
overflow_add-i c = omega (arith, reach (goal.at.overflow_add-i c).Start)

pub bounds-line-i : goal.bounds-line-i
bounds-line-i c = omega (arith, reach (goal.at.bounds-line-i c).Start)

pub overflow_add-i-2 : goal.overflow_add-i-2
overflow_add-i-2 c = omega (arith, reach (goal.at.overflow_add-i-2 c).Start)

pub bounds-line-i-2 : goal.bounds-line-i-2
bounds-line-i-2 c = omega (arith, reach (goal.at.bounds-line-i-2 c).Start)

pub offset_bounds-tables-tag_number : goal.offset_bounds-tables-tag_number
offset_bounds-tables-tag_number c = omega (arith, number c)

pub bounds-tables-tag_number : goal.bounds-tables-tag_number
bounds-tables-tag_number c = omega (arith, number (goal.at.bounds-tables-tag_number c).After-tag_number)

pub overflow_cast-result : goal.overflow_cast-result
overflow_cast-result c = omega (arith, c.shared_slice_known-5-1.given c.tag_number.result)

pub returns : goal.returns
returns c =
    let a = c.args in
    ap (λ m. eqb (get_or a.tables.now m 0) (a.at + a.i)) c.tag_number.ensures
    ∙ first-tabled (none? a.tables.now) a.at a.line.now a.i c.requires.at_field c.requires.i_in_bounds _ refl a.tables.now (lent (goal.at.returns c).Else-has_no_repeat)
