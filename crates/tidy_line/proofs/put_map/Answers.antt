-- `tidy_line::put_map` meets its contract: the prefix, the ID as a field, the rest.
use mathlib.Core.List.{[], ◌∷◌, ◌++◌}
use native.Mathlib.Omega.{arith}
use Rattle.format.specs.Tidy.{field_text}
use Rattle.tidy_parts.specs.Parts.{prefix_text}
use Rattle.tidy_fields.specs.Others.{others_text}
use Rattle.tidy_line.specs.Texts.{place_text, map_text}
use Rattle.tidy_parts.proofs.Wrote.{wrote_then}
use Rattle.tidy_line.proofs.Sizes.{place-size, map-size}
use Rattle.tidy_line.proofs.put_map.Goals as goal

pub put_prefix-n-requires : goal.put_prefix-n-requires
put_prefix-n-requires c = omega (arith, c.requires, map-size c.args.at c.args.line.now c.args.key.id c.requires.inside_line c.args.key.kind)

pub put_field-n-requires : goal.put_field-n-requires
put_field-n-requires c = record {
  len_in_bounds = c.requires.inside_line.within;
  len_in_bounds_2 = omega (arith, c.requires, map-size c.args.at c.args.line.now c.args.key.id c.requires.inside_line c.args.key.kind);
}

pub put_rest-requires : goal.put_rest-requires
unfolding field_text place_text
put_rest-requires c =
    let i = c.requires.inside_line in record {
      walkable = c.requires.walkable;
      line_bound = c.requires.line_bound;
      line_in_bounds = omega (arith, c.requires, place-size c.args.at c.args.line.now c.args.key.id i, map-size c.args.at c.args.line.now c.args.key.id i c.args.key.kind);
    }

pub returns : goal.returns
unfolding map_text place_text prefix_text field_text
returns c =
    let a = c.args in
    let i = c.requires.inside_line in
    let id = place_text a.at a.line.now a.key.id in
    let front = wrote_then a.out.now a.o _ _ _ _ (prefix_text a.key.kind) (field_text 73 68 id) (c.put_prefix-n.ensures.next, c.put_prefix-n.ensures.wrote) (c.put_field-n.ensures.next, c.put_field-n.ensures.wrote) (omega (arith, c.requires, place-size a.at a.line.now a.key.id i, map-size a.at a.line.now a.key.id i a.key.kind)) in
    let told = wrote_then a.out.now a.o _ _ _ _ (prefix_text a.key.kind ++ field_text 73 68 id) (others_text a.key.kind a.at a.line.now ++ (10 ∷ [])) front (c.put_rest.ensures.next, c.put_rest.ensures.wrote) c.requires.line_in_bounds in
    record { next = told.0; wrote = told.1 }
