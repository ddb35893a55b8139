-- `catalogue_lines::put_fields` meets its contract: what is written and what is left to write are the entries of all other fields.
use Prim.Native.Nat.{◌+◌, ◌≤◌}
use mathlib.Core.Path.{◌≡◌, refl, sym, ap, ap₂, ◌∙◌}
use mathlib.Core.Bool.{not, ◌||◌}
use mathlib.Core.List.{◌++◌}
use native.Mathlib.Omega.{arith}
use lib.ListN.{length, get_or}
use Rattle.format.specs.Bytes.{none?}
use Rattle.accepted_line.specs.Next.{is_first}
use Rattle.accepted_line.proofs.fields.Place.{bounds}
use Rattle.catalogue_entries.specs.declared.Entry.TheVariants as entry
use Rattle.catalogue_entries.specs.Entries.{kind_byte, kind_size, entry_size, entry_bytes}
use Rattle.catalogue_lines.specs.Parts.{field_bytes}
use Rattle.byte_slices.specs.Over.{over}
use Rattle.byte_slices.proofs.Over.{over_none}
use Rattle.catalogue_lines.specs.Matched.{met_in}
use Rattle.catalogue_lines.proofs.Entries.{entry-then, wrote}
use Rattle.catalogue_lines.proofs.NextField.{walked_start, walked_end, walked-key, walked-past, same_bytes, Turned, turned}
use Rattle.catalogue_lines.proofs.put_fields.Goals as goal
use Rattle.catalogue_lines.proofs.put_fields.Goals.{After-field_end-end, After-kept_value-v, After-narrow, After-slice_known-1, At-loop-i}

-- the field of a step ends in the line
reach : (f : After-field_end-end)
    → (let a = f.args in (f.loop-i.i + 4 ≤ f.field_end-end.result) × (f.field_end-end.result ≤ length a.src.now))
reach f =
    let a = f.args in
    bounds (none? a.tables.now) a.at a.src.now f.loop-i.i f.loop-i.invariant.0.here (omega arith) f.field_end-end.result f.field_end-end.ensures

pub new-keys-requires : goal.new-keys-requires
new-keys-requires c = tt

pub loop-i-init : goal.loop-i-init
loop-i-init c =
    let a = c.args in
    (walked_start a.at a.src.now a.kind a.tables.now c.new-keys.result c.requires.walkable c.new-keys.ensures, refl, refl, refl)

pub field_end-end-requires : goal.field_end-end-requires
field_end-end-requires c = omega arith

pub overflow_add-a : goal.overflow_add-a
overflow_add-a c = omega (arith, reach c)

pub bounds-src-i : goal.bounds-src-i
bounds-src-i c = omega (arith, reach (goal.at.bounds-src-i c).After-field_end-end)

pub overflow_add-b : goal.overflow_add-b
overflow_add-b c = omega (arith, reach (goal.at.overflow_add-b c).After-field_end-end)

pub bounds-src-i-in-loop-i : goal.bounds-src-i-in-loop-i
bounds-src-i-in-loop-i c = omega (arith, reach (goal.at.bounds-src-i-in-loop-i c).After-field_end-end)

pub is_key-requires : goal.is_key-requires
is_key-requires c = tt

pub value_at-requires : goal.value_at-requires
value_at-requires c =
    let p = (goal.at.value_at-requires c).After-field_end-end in
    ((reach p).0, omega (arith, reach p, c.requires.src_bound))

pub with-keys-requires : goal.with-keys-requires
with-keys-requires c = tt

pub is_first_of_tag-requires : goal.is_first_of_tag-requires
is_first_of_tag-requires c = record {
  walkable = c.requires.walkable;
  at_field = c.loop-i.invariant.0.here;
  i_in_bounds = omega arith;
  line_bound = omega (arith, c.requires.src_bound);
}

pub kept_value-v-requires : goal.kept_value-v-requires
kept_value-v-requires c = record {
  walkable = c.requires.walkable;
  at_field = c.loop-i.invariant.0.here;
  i_in_bounds = (omega arith, c.field_end-end.ensures);
  line_bound = omega (arith, c.requires.src_bound);
}

-- the field that is written
field : (c : After-kept_value-v)
    → (let a = c.args in
    Turned a.at a.src.now a.kind c.loop-i.i c.field_end-end.result c.kept_value-v.result)
field c =
    let a = c.args in
    turned (none? a.tables.now) a.at a.src.now a.kind c.loop-i.i c.loop-i.keys c.loop-i.invariant.0 (omega arith) c.field_end-end.result c.field_end-end.ensures
    c.requires.src_bound (sym c.is_key.ensures ∙ c.if-is_key.false) (sym c.is_first_of_tag.ensures ∙ c.if-is_first_of_tag.true) c.kept_value-v.result c.kept_value-v.ensures

pub narrow-requires : goal.narrow-requires
narrow-requires c = (field (goal.at.narrow-requires c).After-kept_value-v).fits

-- its entry, and those that are left
bytes : (c : After-narrow)
    → (let a = c.args in
    field_bytes a.kind a.at a.src.now c.loop-i.i
    ≡ entry_bytes (entry.Field (get_or a.src.now (c.loop-i.i + 1) 0) (get_or a.src.now (c.loop-i.i + 2) 0) c.narrow.result) ++ field_bytes a.kind a.at a.src.now c.field_end-end.result)
bytes c = (field (goal.at.After-narrow c).After-kept_value-v).bytes c.narrow.result c.narrow.ensures

-- what is left to write has room
room : (l : At-loop-i)
    → (let a = l.args in l.loop-i.next + length (field_bytes a.kind a.at a.src.now l.loop-i.i) ≤ length l.loop-i.out)
room l = omega (arith, l.loop-i.invariant.1, l.loop-i.invariant.3, l.requires.src_in_bounds)

-- the entry has eleven bytes of it
eleven : (c : After-narrow) → (c.loop-i.next + 11 ≤ length c.loop-i.out)
unfolding entry_size kind_byte kind_size
eleven c =
    omega (arith, room (goal.at.After-narrow c).At-loop-i, entry-then _ _ _ (bytes c))

pub put_field-requires : goal.put_field-requires
put_field-requires c = eleven c

-- the lent slice is no longer than a slice can be
lent : (k : After-slice_known-1) → length k.args.out.now ≤ 18446744073709551615
lent k = omega arith

pub overflow_add-next : goal.overflow_add-next
overflow_add-next c =
    omega (arith, eleven (goal.at.overflow_add-next c).After-narrow, c.loop-i.invariant.3, lent (goal.at.overflow_add-next c).After-slice_known-1)

pub loop-i-smaller-then-is_key : goal.loop-i-smaller-then-is_key
loop-i-smaller-then-is_key c = omega (arith, reach (goal.at.loop-i-smaller-then-is_key c).After-field_end-end)

-- a field that has no entry
passed : (f : After-field_end-end)
    → (let a = f.args in field_bytes a.kind a.at a.src.now f.loop-i.i ≡ field_bytes a.kind a.at a.src.now f.field_end-end.result)
    → (let a = f.args in
    (f.loop-i.next + length (field_bytes a.kind a.at a.src.now f.field_end-end.result) ≡ a.o + length (field_bytes a.kind a.at a.src.now 3))
    × (over f.loop-i.out f.loop-i.next (field_bytes a.kind a.at a.src.now f.field_end-end.result) ≡ over a.out.now a.o (field_bytes a.kind a.at a.src.now 3)))
passed f e = (ap (λ x. f.loop-i.next + length x) (sym e) ∙ f.loop-i.invariant.1, ap (over f.loop-i.out f.loop-i.next) (sym e) ∙ f.loop-i.invariant.2)

pub loop-i-preserved-then-is_key : goal.loop-i-preserved-then-is_key
loop-i-preserved-then-is_key c =
    let a = c.args in
    let hit = sym c.is_key.ensures ∙ c.if-is_key.true in
    let p = passed (goal.at.loop-i-preserved-then-is_key c).After-field_end-end (same_bytes (none? a.tables.now) a.at a.src.now a.kind c.loop-i.i c.loop-i.keys c.loop-i.invariant.0 (omega arith) c.field_end-end.result c.field_end-end.ensures (ap (λ t. t || not (is_first a.at a.src.now c.loop-i.i)) hit)) in (
      walked-key (none? a.tables.now) a.at a.src.now a.kind c.loop-i.i c.loop-i.keys c.loop-i.invariant.0 (omega arith) c.field_end-end.result c.field_end-end.ensures hit c.value_at.result c.value_at.ensures c.with-keys.result c.with-keys.ensures,
      p.0,
      p.1,
      c.loop-i.invariant.3,
    )

pub loop-i-smaller-then-is_first_of_tag : goal.loop-i-smaller-then-is_first_of_tag
loop-i-smaller-then-is_first_of_tag c = omega (arith, reach (goal.at.loop-i-smaller-then-is_first_of_tag c).After-field_end-end)

pub loop-i-preserved-then-is_first_of_tag : goal.loop-i-preserved-then-is_first_of_tag
unfolding entry_size kind_byte kind_size
loop-i-preserved-then-is_first_of_tag c =
    let a = c.args in
    let w = wrote (entry.Field _ _ c.narrow.result) _ _ (bytes (goal.at.loop-i-preserved-then-is_first_of_tag c).After-narrow) c.loop-i.out c.put_field.new.out c.loop-i.next (c.loop-i.next + 11) (room (goal.at.loop-i-preserved-then-is_first_of_tag c).At-loop-i) refl c.put_field.ensures in (
      walked-past (none? a.tables.now) a.at a.src.now a.kind c.loop-i.i c.loop-i.keys c.loop-i.invariant.0 (omega arith) c.field_end-end.result c.field_end-end.ensures (sym c.is_key.ensures ∙ c.if-is_key.false),
      w.0 ∙ c.loop-i.invariant.1,
      w.1 ∙ c.loop-i.invariant.2,
      w.2 ∙ c.loop-i.invariant.3,
    )

pub loop-i-smaller : goal.loop-i-smaller
loop-i-smaller c = omega (arith, reach (goal.at.loop-i-smaller c).After-field_end-end)

pub loop-i-preserved : goal.loop-i-preserved
loop-i-preserved c =
    let a = c.args in
    let key = sym c.is_key.ensures ∙ c.if-is_key.false in
    let later = ap₂ (λ t u. t || not u) key (sym c.is_first_of_tag.ensures ∙ c.if-is_first_of_tag.false) in
    let p = passed (goal.at.loop-i-preserved c).After-field_end-end (same_bytes (none? a.tables.now) a.at a.src.now a.kind c.loop-i.i c.loop-i.keys c.loop-i.invariant.0 (omega arith) c.field_end-end.result c.field_end-end.ensures later) in
    (walked-past (none? a.tables.now) a.at a.src.now a.kind c.loop-i.i c.loop-i.keys c.loop-i.invariant.0 (omega arith) c.field_end-end.result c.field_end-end.ensures key, p.0, p.1, c.loop-i.invariant.3)

pub shape_of-out : goal.shape_of-out
shape_of-out c = c.loop-i.invariant.3

pub returns : goal.returns
unfolding met_in
returns c =
    let a = c.args in
    let z = walked_end (none? a.tables.now) a.at a.src.now a.kind c.loop-i.i c.loop-i.keys c.loop-i.invariant.0 c.loop-i-test.false in
    let n : c.loop-i.next ≡ a.o + length (field_bytes a.kind a.at a.src.now 3) = omega (arith, c.loop-i.invariant.1, ap length z.1) in record {
      met = ap₂ (λ n k. record { next = n; keys = k }) n z.0;
      wrote = sym (over_none c.loop-i.out c.loop-i.next) ∙ ap (over c.loop-i.out c.loop-i.next) (sym z.1) ∙ c.loop-i.invariant.2;
    }
