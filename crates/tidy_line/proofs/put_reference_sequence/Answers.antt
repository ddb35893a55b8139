-- `tidy_line::put_reference_sequence` meets its contract: the prefix, the name and the length as fields, the rest.
use Prim.Native.Nat.{◌+◌}
use mathlib.Core.Path.{◌≡◌}
use mathlib.Core.List.{[], ◌∷◌, ◌++◌}
use native.Mathlib.Omega.{arith}
use lib.ListN.{length, length-append}
use Rattle.format.specs.Decimal.{written}
use Rattle.format.specs.Tidy.{field_text}
use Rattle.format.specs.declared.Kind.TheVariants.{ReferenceSequence}
use Rattle.tidy_parts.specs.Parts.{prefix_text}
use Rattle.tidy_fields.specs.Others.{others_text}
use Rattle.tidy_line.specs.Texts.{place_text, sequence_text}
use Rattle.tidy_parts.proofs.Wrote.{wrote_then}
use Rattle.tidy_line.proofs.Sizes.{place-size, sequence-size}
use Rattle.tidy_line.proofs.put_reference_sequence.Goals as goal
use Rattle.tidy_line.proofs.put_reference_sequence.Goals.{Start}

-- how long the whole is, and its name
sizes : (s : Start) → (let a = s.args in (length (place_text a.at a.line.now a.keys.name) ≡ a.keys.name.len)
    × (length (sequence_text a.keys.name a.keys.ln a.at a.line.now) ≡ 12 + a.keys.name.len + length (written a.keys.ln) + length (others_text ReferenceSequence a.at a.line.now)))
sizes s =
    let a = s.args in
    let i = s.requires.inside_line in
    (place-size a.at a.line.now a.keys.name i, sequence-size a.at a.line.now a.keys.name i a.keys.ln)

pub put_prefix-n-requires : goal.put_prefix-n-requires
put_prefix-n-requires c = omega (arith, c.requires, sizes (goal.at.put_prefix-n-requires c).Start)

pub put_field-n-requires : goal.put_field-n-requires
put_field-n-requires c = record {
  len_in_bounds = c.requires.inside_line.within;
  len_in_bounds_2 = omega (arith, c.requires, sizes (goal.at.put_field-n-requires c).Start);
}

pub put_tag-n-requires : goal.put_tag-n-requires
unfolding field_text place_text
put_tag-n-requires c =
    omega (arith, c.requires, sizes (goal.at.put_tag-n-requires c).Start)

pub write_u64-n-requires : goal.write_u64-n-requires
unfolding field_text place_text
write_u64-n-requires c =
    omega (arith, c.requires, sizes (goal.at.write_u64-n-requires c).Start)

pub put_rest-requires : goal.put_rest-requires
unfolding field_text place_text
put_rest-requires c = record {
  walkable = c.requires.walkable;
  line_bound = c.requires.line_bound;
  line_in_bounds = omega (arith, c.requires, sizes (goal.at.put_rest-requires c).Start);
}

pub returns : goal.returns
unfolding sequence_text place_text prefix_text field_text
returns c =
    let a = c.args in
    let name = field_text 83 78 (place_text a.at a.line.now a.keys.name) in
    let ln = field_text 76 78 (written a.keys.ln) in
    let length-field = wrote_then c.put_field-n.new.out c.put_field-n.result _ _ _ _ (9 ∷ 76 ∷ 78 ∷ 58 ∷ []) (written a.keys.ln) (c.put_tag-n.ensures.next, c.put_tag-n.ensures.wrote) (c.write_u64-n.ensures.next, c.write_u64-n.ensures.wrote) (omega (arith, c.requires, sizes (goal.at.returns c).Start)) in
    let named = wrote_then a.out.now a.o _ _ _ _ (prefix_text ReferenceSequence) name (c.put_prefix-n.ensures.next, c.put_prefix-n.ensures.wrote) (c.put_field-n.ensures.next, c.put_field-n.ensures.wrote) (omega (arith, c.requires, sizes (goal.at.returns c).Start)) in
    let front = wrote_then a.out.now a.o _ _ _ _ (prefix_text ReferenceSequence ++ name) ln named length-field (omega (arith, c.requires, sizes (goal.at.returns c).Start, length-append (prefix_text ReferenceSequence ++ name) ln)) in
    let told = wrote_then a.out.now a.o _ _ _ _ (prefix_text ReferenceSequence ++ name ++ ln) (others_text ReferenceSequence a.at a.line.now ++ (10 ∷ [])) front (c.put_rest.ensures.next, c.put_rest.ensures.wrote) c.requires.line_in_bounds in
    record { next = told.0; wrote = told.1 }
