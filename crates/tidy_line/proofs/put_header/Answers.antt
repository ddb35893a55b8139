-- `tidy_line::put_header` meets its contract: the prefix, the version as a field, the rest.
use mathlib.Core.List.{[], ◌∷◌, ◌++◌}
use native.Mathlib.Omega.{arith}
use Rattle.format.specs.Tidy.{field_text}
use Rattle.format.specs.declared.Kind.TheVariants.{Header}
use Rattle.tidy_parts.specs.Parts.{prefix_text, version_text}
use Rattle.tidy_fields.specs.Others.{others_text}
use Rattle.tidy_line.specs.Texts.{header_text}
use Rattle.tidy_parts.proofs.Wrote.{wrote_then}
use Rattle.tidy_line.proofs.Sizes.{header-size}
use Rattle.tidy_line.proofs.put_header.Goals as goal

pub put_prefix-n-requires : goal.put_prefix-n-requires
put_prefix-n-requires c = omega (arith, c.requires, header-size c.args.v c.args.at c.args.line.now)

pub put_tag-n-requires : goal.put_tag-n-requires
put_tag-n-requires c = omega (arith, c.requires, header-size c.args.v c.args.at c.args.line.now)

pub put_version-n-requires : goal.put_version-n-requires
put_version-n-requires c = omega (arith, c.requires, header-size c.args.v c.args.at c.args.line.now)

pub put_rest-requires : goal.put_rest-requires
put_rest-requires c = record {
  walkable = c.requires.walkable;
  line_bound = c.requires.line_bound;
  line_in_bounds = omega (arith, c.requires, header-size c.args.v c.args.at c.args.line.now);
}

pub returns : goal.returns
unfolding header_text prefix_text field_text
returns c =
    let a = c.args in
    let size = header-size a.v a.at a.line.now in
    let field = wrote_then c.put_prefix-n.new.out c.put_prefix-n.result _ _ _ _ (9 ∷ 86 ∷ 78 ∷ 58 ∷ []) (version_text a.v) (c.put_tag-n.ensures.next, c.put_tag-n.ensures.wrote) (c.put_version-n.ensures.next, c.put_version-n.ensures.wrote) (omega (arith, size, c.requires)) in
    let front = wrote_then a.out.now a.o _ _ _ _ (prefix_text Header) (field_text 86 78 (version_text a.v)) (c.put_prefix-n.ensures.next, c.put_prefix-n.ensures.wrote) field (omega (arith, size, c.requires)) in
    let told = wrote_then a.out.now a.o _ _ _ _ (prefix_text Header ++ field_text 86 78 (version_text a.v)) (others_text Header a.at a.line.now ++ (10 ∷ [])) front (c.put_rest.ensures.next, c.put_rest.ensures.wrote) c.requires.line_in_bounds in
    record { next = told.0; wrote = told.1 }
