-- `accepted_line::fields::kept_value` meets its contract: where no tag is repeated the field's own value is the last, and otherwise the tables say.
use Prim.Native.Nat.{◌+◌, ◌≤◌}
use mathlib.Core.Path.{sym, ◌∙◌}
use native.Mathlib.Omega.{arith}
use lib.ListN.{length}
use Rattle.format.specs.Bytes.{none?}
use Rattle.accepted_line.proofs.fields.Here.{laxly}
use Rattle.accepted_line.proofs.fields.Place.{bounds, own_at, tag_at, kept-tabled}
use Rattle.accepted_line.proofs.fields.kept_value.Goals as goal
use Rattle.accepted_line.proofs.fields.kept_value.Goals.{Start}

-- the field ends in the line
reach : (s : Start) → (let a = s.args in (a.i + 4 ≤ a.end) × (a.end ≤ length a.line.now))
reach s =
    let a = s.args in
    let p = s.requires.i_in_bounds in
    bounds (none? a.tables.now) a.at a.line.now a.i s.requires.at_field p.0 a.end p.1

pub has_no_repeat-requires : goal.has_no_repeat-requires
has_no_repeat-requires c = tt

pub value_at-requires : goal.value_at-requires
value_at-requires c = ((reach (goal.at.value_at-requires c).Start).0, omega (arith, reach (goal.at.value_at-requires c).Start, c.requires.line_bound))

pub returns-then-has_no_repeat : goal.returns-then-has_no_repeat
returns-then-has_no_repeat c =
    let a = c.args in
    let p = c.requires.i_in_bounds in
    c.value_at.ensures ∙ sym (own_at (none? a.tables.now) a.at a.line.now a.i c.requires.at_field p.0 a.end p.1 (sym c.has_no_repeat.ensures ∙ c.if-has_no_repeat.true))

pub bounds-line-i : goal.bounds-line-i
bounds-line-i c = omega (arith, reach (goal.at.bounds-line-i c).Start)

pub bounds-line-i-2 : goal.bounds-line-i-2
bounds-line-i-2 c = omega (arith, reach (goal.at.bounds-line-i-2 c).Start)

pub noted_value-requires : goal.noted_value-requires
noted_value-requires c =
    let a = c.args in
    let p = c.requires.i_in_bounds in
    let n = c.requires.walkable.tables (sym c.has_no_repeat.ensures ∙ c.if-has_no_repeat.false) in record {
      at_field = laxly (none? a.tables.now) a.at a.line.now 3 c.requires.walkable.start;
      noted = n;
      b_value = tag_at (none? a.tables.now) a.at a.line.now a.i c.requires.at_field p.0 a.end p.1 a.tables.now n;
      line_bound = c.requires.line_bound;
    }

pub returns : goal.returns
returns c =
    let a = c.args in
    let p = c.requires.i_in_bounds in
    c.noted_value.ensures ∙ kept-tabled (none? a.tables.now) a.at a.line.now a.i c.requires.at_field p.0 a.end p.1
