-- `program_lines::find_places` meets its contract: the last values of both tags.
use mathlib.Core.Path.{refl, ap, ◌∙◌}
use native.Mathlib.Omega.{arith}
use Rattle.format.specs.Fields.{is_tag}
use Rattle.format.specs.Bytes.{none?, letter, digit, between}
use Rattle.program_lines.specs.Found.{place_of, previous_of}
use Rattle.program_lines.proofs.Last.{last-inside}
use Rattle.program_lines.proofs.find_places.Goals as goal

pub find_value-requires : goal.find_value-requires
unfolding is_tag letter digit between
find_value-requires c = record {
  walkable = c.requires.walkable;
  b_value = refl;
  line_bound = omega (arith, c.requires.line_bound);
}

pub narrow-id-requires : goal.narrow-id-requires
narrow-id-requires c =
    let a = c.args in
    let i = last-inside (none? a.tables.now) a.at a.line.now c.requires.walkable.start 73 68 in
    let e = c.find_value.ensures in
    (omega (arith, c.requires.line_bound, i, ap (λ v. v.at) e, ap (λ v. v.len) e), omega (arith, c.requires.line_bound, i, ap (λ v. v.at) e, ap (λ v. v.len) e))

pub find_value-requires-2 : goal.find_value-requires-2
unfolding is_tag letter digit between
find_value-requires-2 c = record {
  walkable = c.requires.walkable;
  b_value = refl;
  line_bound = omega (arith, c.requires.line_bound);
}

pub narrow_previous-previous-requires : goal.narrow_previous-previous-requires
narrow_previous-previous-requires c =
    let a = c.args in
    let i = last-inside (none? a.tables.now) a.at a.line.now c.requires.walkable.start 80 80 in
    let e = c.find_value-2.ensures in
    (omega (arith, c.requires.line_bound, i, ap (λ v. v.at) e, ap (λ v. v.len) e), omega (arith, c.requires.line_bound, i, ap (λ v. v.at) e, ap (λ v. v.len) e))

pub returns : goal.returns
returns c =
    (c.narrow-id.ensures ∙ ap place_of c.find_value.ensures, c.narrow_previous-previous.ensures ∙ ap previous_of c.find_value-2.ensures)
