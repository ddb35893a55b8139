-- `tidy_fields::is_other` meets its contract.
use Prim.Native.Nat.{◌+◌, ◌≤◌}
use mathlib.Core.Path.{refl, sym, ap, ◌∙◌}
use mathlib.Core.Bool.{not, ◌&&◌}
use native.Mathlib.Omega.{arith}
use lib.ListN.{length}
use Rattle.format.specs.Bytes.{none?}
use Rattle.accepted_line.specs.Next.{is_first}
use Rattle.accepted_line.proofs.fields.Place.{bounds}
use Rattle.tidy_fields.proofs.is_other.Goals as goal
use Rattle.tidy_fields.proofs.is_other.Goals.{Start}

-- the field has a tag
reach : (s : Start) → (let a = s.args in a.i + 4 ≤ length a.line.now)
reach s =
    let a = s.args in
    let b = bounds (none? a.tables.now) a.at a.line.now a.i s.requires.at_field s.requires.i_in_bounds _ refl in
    omega (arith, b)

pub overflow_add-i : goal.overflow_add-i
overflow_add-i c = omega (arith, reach (goal.at.overflow_add-i c).Start)

pub bounds-line-i : goal.bounds-line-i
bounds-line-i c = omega (arith, reach (goal.at.bounds-line-i c).Start)

pub overflow_add-i-2 : goal.overflow_add-i-2
overflow_add-i-2 c = omega (arith, reach (goal.at.overflow_add-i-2 c).Start)

pub bounds-line-i-2 : goal.bounds-line-i-2
bounds-line-i-2 c = omega (arith, reach (goal.at.bounds-line-i-2 c).Start)

pub returns-then-is_key : goal.returns-then-is_key
returns-then-is_key c =
    let a = c.args in
    sym (ap (λ t. not t && is_first a.at a.line.now a.i) (sym c.is_key.ensures ∙ c.if-is_key.true))

pub is_first_of_tag-requires : goal.is_first_of_tag-requires
is_first_of_tag-requires c = record {
  walkable = c.requires.walkable;
  at_field = c.requires.at_field;
  i_in_bounds = c.requires.i_in_bounds;
  line_bound = omega (arith, c.requires.line_bound);
}

pub returns : goal.returns
returns c =
    let a = c.args in
    c.is_first_of_tag.ensures ∙ sym (ap (λ t. not t && is_first a.at a.line.now a.i) (sym c.is_key.ensures ∙ c.if-is_key.false))
