-- `catalogue_lines::put_line_entries` meets its contract: the entries of the other fields are written where they follow the own entry, and then that.
use Prim.Native.Nat.{◌+◌, ◌≤◌}
use mathlib.Core.Path.{◌≡◌, sym, ap, ◌∙◌}
use mathlib.Core.Bool.{false}
use mathlib.Core.List.{◌++◌}
use native.Mathlib.Omega.{arith}
use lib.ListN.{length}
use Rattle.byte_slices.specs.Over.{over}
use Rattle.catalogue_entries.specs.Entries.{entry_size, entry_bytes}
use Rattle.catalogue_lines.specs.Line.{line_bytes}
use Rattle.catalogue_lines.specs.Parts.{field_bytes}
use Rattle.catalogue_lines.specs.Matched.{met_in}
use Rattle.catalogue_lines.proofs.LineEntries.{own, own-size, line-bytes}
use Rattle.catalogue_lines.proofs.Entries.{entry-then, wrote-before}
use Rattle.catalogue_lines.proofs.put_line_entries.Goals as goal
use Rattle.catalogue_lines.proofs.put_line_entries.Goals.{After-own_size, After-slice_known-1, Start}

-- the entries of the line
bytes : (s : Start) → (let a = s.args in line_bytes false a.place.number a.place.at a.src.now ≡ entry_bytes (own a.place.number a.place.at a.src.now s.requires.line_of.accepted) ++ field_bytes a.kind a.place.at a.src.now 3)
bytes s = let a = s.args in line-bytes a.place.number a.place.at a.src.now s.requires.line_of.accepted a.kind s.requires.line_of.kind s.requires.kind_value

-- how long they are
parts : (c : After-own_size)
    → (let a = c.args in
    (c.own_size.result ≡ entry_size (own a.place.number a.place.at a.src.now c.requires.line_of.accepted))
    × (length (line_bytes false a.place.number a.place.at a.src.now) ≡ c.own_size.result + length (field_bytes a.kind a.place.at a.src.now 3)))
parts c =
    let a = c.args in
    let n = c.own_size.ensures ∙ sym (own-size a.place.number a.place.at a.src.now c.requires.line_of.accepted a.kind c.requires.line_of.kind) in
    (n, entry-then (own a.place.number a.place.at a.src.now c.requires.line_of.accepted) _ _ (bytes (goal.at.After-own_size c).Start) ∙ ap (λ m. m + length (field_bytes a.kind a.place.at a.src.now 3)) (sym n))

-- the lent slice is no longer than a slice can be
lent : (k : After-slice_known-1) → length k.args.out.now ≤ 18446744073709551615
lent k = omega arith

pub overflow_add-o : goal.overflow_add-o
overflow_add-o c = omega (arith, (parts c).1, c.requires.src_in_bounds, lent (goal.at.overflow_add-o c).After-slice_known-1)

pub put_fields-met-requires : goal.put_fields-met-requires
put_fields-met-requires c = record {
  walkable = c.requires.walkable;
  src_bound = c.requires.line_of.short;
  src_in_bounds = omega (arith, (parts c).1, c.requires.src_in_bounds);
}

pub line_entry-requires : goal.line_entry-requires
unfolding met_in
line_entry-requires c = record {
  line_of = c.requires.line_of;
  keys_value = ap (λ m. m.keys) c.put_fields-met.ensures.met;
}

pub put_entry-requires : goal.put_entry-requires
put_entry-requires c =
    omega (arith, ap entry_size c.line_entry.ensures, parts (goal.at.put_entry-requires c).After-own_size, c.requires.src_in_bounds, c.put_fields-met.auto.out)

pub returns : goal.returns
unfolding met_in
returns c =
    let p = (goal.at.returns c).After-own_size in
    let a = c.args in record {
      next = ap (λ m. m.next) c.put_fields-met.ensures.met ∙ omega (arith, (parts p).1);
      wrote = wrote-before (own a.place.number a.place.at a.src.now c.requires.line_of.accepted) _ _ (bytes (goal.at.returns c).Start) a.out.now c.put_fields-met.new.out c.put_entry.new.out a.o c.own_size.result (parts p).0 c.requires.src_in_bounds c.put_fields-met.ensures.wrote
          (c.put_entry.ensures.wrote ∙ ap (λ d. over c.put_fields-met.new.out a.o (entry_bytes d)) c.line_entry.ensures);
    }
