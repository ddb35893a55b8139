-- `catalogue_lines::same_fields` meets its contract: what was compared is there, so that what is left to compare decides.
use Prim.Native.Nat.{◌+◌, ◌≤◌}
use mathlib.Core.Path.{◌≡◌, refl, sym, ap, ap₂, ◌∙◌}
use mathlib.Core.Bool.{false, not, ◌&&◌, ◌||◌}
use native.Mathlib.Omega.{arith}
use lib.ListN.{length, drop, get_or}
use borrow.Author.Tests.{not-true, not-false}
use Rattle.format.specs.Bytes.{starts}
use Rattle.format.specs.Bytes.{none?}
use Rattle.accepted_line.specs.Next.{is_first}
use Rattle.accepted_line.proofs.fields.Place.{bounds}
use Rattle.catalogue_entries.specs.declared.Entry.TheVariants as entry
use Rattle.catalogue_entries.specs.Entries.{kind_byte, kind_size, entry_size, entry_bytes}
use Rattle.catalogue_entries.proofs.Written.{entry_length_lem}
use Rattle.catalogue_same.proofs.Starts.{starts_none}
use Rattle.catalogue_lines.specs.Parts.{field_bytes}
use Rattle.catalogue_lines.specs.Matched.{met_in, compared_of}
use Rattle.std.specs.Prelude.{Some}
use Rattle.catalogue_lines.proofs.Starts.{match-within}
use Rattle.catalogue_lines.proofs.Entries.{entry-then, compared}
use Rattle.catalogue_lines.proofs.NextField.{walked_start, walked_end, walked-key, walked-past, same_bytes, Turned, turned}
use Rattle.catalogue_lines.proofs.same_fields.Goals as goal
use Rattle.catalogue_lines.proofs.same_fields.Goals.{After-field_end-end, After-kept_value-v, After-same_field, After-shared_slice_known-1, Else-not-same_field}

-- the field of a step ends in the line
reach : (f : After-field_end-end)
    → (let a = f.args in (f.loop-i.i + 4 ≤ f.field_end-end.result) × (f.field_end-end.result ≤ length a.src.now))
reach f =
    let a = f.args in
    bounds (none? a.tables.now) a.at a.src.now f.loop-i.i f.loop-i.invariant.0.here (omega arith) f.field_end-end.result f.field_end-end.ensures

pub new-keys-requires : goal.new-keys-requires
new-keys-requires c = tt

pub loop-i-init : goal.loop-i-init
loop-i-init c =
    let a = c.args in
    (walked_start a.at a.src.now a.kind a.tables.now c.new-keys.result c.requires.walkable c.new-keys.ensures, c.requires.o_in_bounds, refl, refl)

pub field_end-end-requires : goal.field_end-end-requires
field_end-end-requires c = omega arith

pub overflow_add-a : goal.overflow_add-a
overflow_add-a c = omega (arith, reach c)

pub bounds-src-i : goal.bounds-src-i
bounds-src-i c = omega (arith, reach (goal.at.bounds-src-i c).After-field_end-end)

pub overflow_add-b : goal.overflow_add-b
overflow_add-b c = omega (arith, reach (goal.at.overflow_add-b c).After-field_end-end)

pub bounds-src-i-in-loop-i : goal.bounds-src-i-in-loop-i
bounds-src-i-in-loop-i c = omega (arith, reach (goal.at.bounds-src-i-in-loop-i c).After-field_end-end)

pub is_key-requires : goal.is_key-requires
is_key-requires c = tt

pub value_at-requires : goal.value_at-requires
value_at-requires c =
    let p = (goal.at.value_at-requires c).After-field_end-end in
    ((reach p).0, omega (arith, reach p, c.requires.src_bound))

pub with-keys-requires : goal.with-keys-requires
with-keys-requires c = tt

pub is_first_of_tag-requires : goal.is_first_of_tag-requires
is_first_of_tag-requires c = record {
  walkable = c.requires.walkable;
  at_field = c.loop-i.invariant.0.here;
  i_in_bounds = omega arith;
  line_bound = omega (arith, c.requires.src_bound);
}

pub kept_value-v-requires : goal.kept_value-v-requires
kept_value-v-requires c = record {
  walkable = c.requires.walkable;
  at_field = c.loop-i.invariant.0.here;
  i_in_bounds = (omega arith, c.field_end-end.ensures);
  line_bound = omega (arith, c.requires.src_bound);
}

-- the field that is compared
field : (c : After-kept_value-v)
    → (let a = c.args in
    Turned a.at a.src.now a.kind c.loop-i.i c.field_end-end.result c.kept_value-v.result)
field c =
    let a = c.args in
    turned (none? a.tables.now) a.at a.src.now a.kind c.loop-i.i c.loop-i.keys c.loop-i.invariant.0 (omega arith) c.field_end-end.result c.field_end-end.ensures
    c.requires.src_bound (sym c.is_key.ensures ∙ c.if-is_key.false) (sym c.is_first_of_tag.ensures ∙ c.if-is_first_of_tag.true) c.kept_value-v.result c.kept_value-v.ensures

pub narrow-requires : goal.narrow-requires
narrow-requires c = (field (goal.at.narrow-requires c).After-kept_value-v).fits

pub same_field-requires : goal.same_field-requires
same_field-requires c = c.loop-i.invariant.1

-- its entry is compared, and those that are left
told : (c : After-same_field)
    → (let a = c.args in
    (starts (field_bytes a.kind a.at a.src.now c.loop-i.i) (drop c.loop-i.next a.catalogue.now)
    ≡ (c.same_field.result && starts (field_bytes a.kind a.at a.src.now c.field_end-end.result) (drop (c.loop-i.next + 11) a.catalogue.now)))
    × (length (field_bytes a.kind a.at a.src.now c.loop-i.i) ≡ 11 + length (field_bytes a.kind a.at a.src.now c.field_end-end.result)))
unfolding entry_size kind_byte kind_size
told c =
    let a = c.args in
    let q = (field (goal.at.After-same_field c).After-kept_value-v).bytes c.narrow.result c.narrow.ensures in (
      compared (entry.Field _ _ c.narrow.result) _ _ q a.catalogue.now c.loop-i.next 11 refl
          ∙ ap (λ t. t && starts (field_bytes a.kind a.at a.src.now c.field_end-end.result) (drop (c.loop-i.next + 11) a.catalogue.now)) (sym c.same_field.ensures),
      entry-then (entry.Field _ _ c.narrow.result) _ _ q,
    )

pub returns-then-not-same_field : goal.returns-then-not-same_field
unfolding compared_of
returns-then-not-same_field c =
    let a = c.args in
    let e : starts (field_bytes a.kind a.at a.src.now 3) (drop a.o a.catalogue.now) ≡ false =
    c.loop-i.invariant.3 ∙ (told (goal.at.returns-then-not-same_field c).After-same_field).0 ∙ ap (λ b. b && starts (field_bytes a.kind a.at a.src.now c.field_end-end.result) (drop (c.loop-i.next + 11) a.catalogue.now)) (not-true c.same_field.result c.if-not-same_field.true-raw) in
    sym (ap (λ b. compared_of b (met_in a.kind a.at a.src.now a.o)) e)

-- the entry is there
here : (c : Else-not-same_field)
    → (let a = c.args in c.loop-i.next + 11 ≤ length a.catalogue.now)
unfolding entry_size kind_byte kind_size
here c =
    let a = c.args in
    let e = entry.Field (get_or a.src.now (c.loop-i.i + 1) 0) (get_or a.src.now (c.loop-i.i + 2) 0) c.narrow.result in
    omega (arith, match-within a.catalogue.now c.loop-i.next (entry_bytes e) c.loop-i.invariant.1 (sym c.same_field.ensures ∙ not-false c.same_field.result c.if-not-same_field.false-raw), entry_length_lem e)

-- the catalogue is no longer than a slice can be
lent : (k : After-shared_slice_known-1) → length k.args.catalogue.now ≤ 18446744073709551615
lent k = omega arith

pub overflow_add-next : goal.overflow_add-next
overflow_add-next c =
    omega (arith, here c, lent (goal.at.overflow_add-next c).After-shared_slice_known-1)

pub loop-i-smaller-then-is_key : goal.loop-i-smaller-then-is_key
loop-i-smaller-then-is_key c = omega (arith, reach (goal.at.loop-i-smaller-then-is_key c).After-field_end-end)

-- a field that has no entry
passed : (f : After-field_end-end)
    → (let a = f.args in field_bytes a.kind a.at a.src.now f.loop-i.i ≡ field_bytes a.kind a.at a.src.now f.field_end-end.result)
    → (let a = f.args in
    (f.loop-i.next + length (field_bytes a.kind a.at a.src.now f.field_end-end.result) ≡ a.o + length (field_bytes a.kind a.at a.src.now 3))
    × (starts (field_bytes a.kind a.at a.src.now 3) (drop a.o a.catalogue.now) ≡ starts (field_bytes a.kind a.at a.src.now f.field_end-end.result) (drop f.loop-i.next a.catalogue.now)))
passed f e =
    let a = f.args in
    (ap (λ x. f.loop-i.next + length x) (sym e) ∙ f.loop-i.invariant.2, f.loop-i.invariant.3 ∙ ap (λ x. starts x (drop f.loop-i.next a.catalogue.now)) e)

pub loop-i-preserved-then-is_key : goal.loop-i-preserved-then-is_key
loop-i-preserved-then-is_key c =
    let a = c.args in
    let hit = sym c.is_key.ensures ∙ c.if-is_key.true in
    let p = passed (goal.at.loop-i-preserved-then-is_key c).After-field_end-end (same_bytes (none? a.tables.now) a.at a.src.now a.kind c.loop-i.i c.loop-i.keys c.loop-i.invariant.0 (omega arith) c.field_end-end.result c.field_end-end.ensures (ap (λ t. t || not (is_first a.at a.src.now c.loop-i.i)) hit)) in (
      walked-key (none? a.tables.now) a.at a.src.now a.kind c.loop-i.i c.loop-i.keys c.loop-i.invariant.0 (omega arith) c.field_end-end.result c.field_end-end.ensures hit c.value_at.result c.value_at.ensures c.with-keys.result c.with-keys.ensures,
      c.loop-i.invariant.1,
      p.0,
      p.1,
    )

pub loop-i-smaller-else-not-same_field : goal.loop-i-smaller-else-not-same_field
loop-i-smaller-else-not-same_field c = omega (arith, reach (goal.at.loop-i-smaller-else-not-same_field c).After-field_end-end)

pub loop-i-preserved-else-not-same_field : goal.loop-i-preserved-else-not-same_field
loop-i-preserved-else-not-same_field c =
    let p = (goal.at.loop-i-preserved-else-not-same_field c).After-same_field in
    let a = c.args in (
      walked-past (none? a.tables.now) a.at a.src.now a.kind c.loop-i.i c.loop-i.keys c.loop-i.invariant.0 (omega arith) c.field_end-end.result c.field_end-end.ensures (sym c.is_key.ensures ∙ c.if-is_key.false),
      here c,
      omega (arith, c.loop-i.invariant.2, (told p).1),
      c.loop-i.invariant.3 ∙ (told p).0 ∙ rw (not-false c.same_field.result c.if-not-same_field.false-raw) refl,
    )

pub loop-i-smaller : goal.loop-i-smaller
loop-i-smaller c = omega (arith, reach (goal.at.loop-i-smaller c).After-field_end-end)

pub loop-i-preserved : goal.loop-i-preserved
loop-i-preserved c =
    let a = c.args in
    let key = sym c.is_key.ensures ∙ c.if-is_key.false in
    let later = ap₂ (λ t u. t || not u) key (sym c.is_first_of_tag.ensures ∙ c.if-is_first_of_tag.false) in
    let p = passed (goal.at.loop-i-preserved c).After-field_end-end (same_bytes (none? a.tables.now) a.at a.src.now a.kind c.loop-i.i c.loop-i.keys c.loop-i.invariant.0 (omega arith) c.field_end-end.result c.field_end-end.ensures later) in
    (walked-past (none? a.tables.now) a.at a.src.now a.kind c.loop-i.i c.loop-i.keys c.loop-i.invariant.0 (omega arith) c.field_end-end.result c.field_end-end.ensures key, c.loop-i.invariant.1, p.0, p.1)

pub returns : goal.returns
unfolding met_in compared_of
returns c =
    let a = c.args in
    let z = walked_end (none? a.tables.now) a.at a.src.now a.kind c.loop-i.i c.loop-i.keys c.loop-i.invariant.0 c.loop-i-test.false in
    let n : c.loop-i.next ≡ a.o + length (field_bytes a.kind a.at a.src.now 3) = omega (arith, c.loop-i.invariant.2, ap length z.1) in
    let t = c.loop-i.invariant.3 ∙ ap (λ x. starts x (drop c.loop-i.next a.catalogue.now)) z.1 ∙ starts_none a.catalogue.now c.loop-i.next in
    ap₂ (λ n k. Some (record { next = n; keys = k })) n z.0 ∙ sym (ap (λ b. compared_of b (met_in a.kind a.at a.src.now a.o)) t)
