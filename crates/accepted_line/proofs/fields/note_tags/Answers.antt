-- `accepted_line::fields::note_tags` meets its contract: what is noted, and the fields from the place on, make the tables.
use Prim.Native.Nat.{ℕ, ◌+◌, ◌≤◌, ◌<◌}
use mathlib.Core.Path.{◌≡◌, refl, sym, ap, ◌∙◌}
use mathlib.Core.Bool.{false}
use mathlib.Core.List.{List, []}
use native.Mathlib.Omega.{arith}
use lib.ListN.{length}
use Rattle.format.specs.Fields.{Field}
use Rattle.byte_slices.specs.Stands.{Each}
use Rattle.accepted_line.specs.Run.{fields_from}
use Rattle.accepted_line.specs.Tables.{HasTag, noted}
use Rattle.accepted_line.proofs.fields.Here.{ended}
use Rattle.accepted_line.proofs.fields.Noted.{marked-length}
use Rattle.accepted_line.proofs.fields.Place.{next-at, bounds, noted-at, tags-at}
use Rattle.accepted_line.proofs.fields.note_tags.Goals as goal
use Rattle.accepted_line.proofs.fields.note_tags.Goals.{After-field_end-end, After-tag_number}

none_left : (t : List ℕ) (p : ℕ) (fs : List Field) → fs ≡ [] → noted t p fs ≡ t
unfolding noted
none_left t p fs e = rw e refl

-- the field of a step ends in the line
reach : (c : After-field_end-end) → ((c.loop-i.i + 4 ≤ c.field_end-end.result) × (c.field_end-end.result ≤ length c.args.line.now))
reach c =
    let a = c.args in
    bounds false a.at a.line.now c.loop-i.i c.loop-i.invariant.0 (omega arith) c.field_end-end.result c.field_end-end.ensures

pub loop-i-init : goal.loop-i-init
loop-i-init c = (c.requires.at_field, c.requires.each, refl, refl)

pub field_end-end-requires : goal.field_end-end-requires
field_end-end-requires c = omega arith

pub overflow_add-i : goal.overflow_add-i
overflow_add-i c = omega (arith, reach (goal.at.overflow_add-i c).After-field_end-end)

pub bounds-line-i : goal.bounds-line-i
bounds-line-i c = omega (arith, reach (goal.at.bounds-line-i c).After-field_end-end)

pub overflow_add-i-in-loop-i : goal.overflow_add-i-in-loop-i
overflow_add-i-in-loop-i c = omega (arith, reach (goal.at.overflow_add-i-in-loop-i c).After-field_end-end)

pub bounds-line-i-in-loop-i : goal.bounds-line-i-in-loop-i
bounds-line-i-in-loop-i c = omega (arith, reach (goal.at.bounds-line-i-in-loop-i c).After-field_end-end)

pub tag_number-requires : goal.tag_number-requires
tag_number-requires c = tt

-- the offset of the field is a small number
placed : (f : After-field_end-end) → (f.args.at + f.loop-i.i ≤ 4294967295)
placed f = omega (arith, reach f, f.requires.line_bound)

pub overflow_add-at : goal.overflow_add-at
overflow_add-at c = omega (arith, placed (goal.at.overflow_add-at c).After-field_end-end)

pub overflow_cast-at : goal.overflow_cast-at
overflow_cast-at c = omega (arith, placed (goal.at.overflow_cast-at c).After-field_end-end)

-- the number of its tag, and the tags after it
tags : (c : After-tag_number)
    → (let a = c.args in (c.tag_number.result < 3224) × Each HasTag (fields_from a.at a.line.now c.field_end-end.result))
tags c =
    let a = c.args in
    let g = tags-at false a.at a.line.now c.loop-i.i c.loop-i.invariant.0 (omega arith) c.field_end-end.result c.field_end-end.ensures c.loop-i.invariant.1 in
    (omega (arith, c.tag_number.ensures, g.0), g.1)

pub note_tag-requires : goal.note_tag-requires
note_tag-requires c = ((tags c).0, c.loop-i.invariant.2 ∙ c.requires.tables_len)

pub loop-i-smaller : goal.loop-i-smaller
loop-i-smaller c = omega (arith, reach (goal.at.loop-i-smaller c).After-field_end-end)

pub loop-i-preserved : goal.loop-i-preserved
loop-i-preserved c =
    let a = c.args in (
      next-at false a.at a.line.now c.loop-i.i c.loop-i.invariant.0 (omega arith) c.field_end-end.result c.field_end-end.ensures,
      (tags (goal.at.loop-i-preserved c).After-tag_number).1,
      ap length c.note_tag.ensures ∙ marked-length c.loop-i.tables c.tag_number.result (a.at + c.loop-i.i) ∙ c.loop-i.invariant.2,
      ap (λ t. noted t (a.at + c.field_end-end.result) (fields_from a.at a.line.now c.field_end-end.result)) c.note_tag.ensures
          ∙ sym (noted-at false a.at a.line.now c.loop-i.i c.loop-i.invariant.0 (omega arith) c.field_end-end.result c.field_end-end.ensures c.loop-i.tables c.tag_number.result c.tag_number.ensures)
          ∙ c.loop-i.invariant.3,
    )

pub shape_of-tables : goal.shape_of-tables
shape_of-tables c = c.loop-i.invariant.2

pub returns : goal.returns
returns c =
    let a = c.args in
    sym (none_left c.loop-i.tables (a.at + c.loop-i.i) _ (ended false a.at a.line.now c.loop-i.i c.loop-i.invariant.0 c.loop-i-test.false)) ∙ c.loop-i.invariant.3
