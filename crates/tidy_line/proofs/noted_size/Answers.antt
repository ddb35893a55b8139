-- `tidy_line::noted_size` meets its contract: the tables are the line's.
use mathlib.Core.Path.{refl, sym, ap, ◌∙◌}
use native.Mathlib.Omega.{arith}
use borrow.Author.Tests.{not-true, not-false}
use Rattle.accepted_line.specs.Tables.{Walkable}
use Rattle.accepted_line.proofs.Noting.{noting, noted-line}
use Rattle.tidy_line.specs.Line.{line_size}
use Rattle.std.specs.Prelude.{Some}
use Rattle.tidy_line.proofs.noted_size.Goals as goal
use Rattle.tidy_line.proofs.noted_size.Goals.{After-note_tags}

-- its tables
tables : (n : After-note_tags) → (let a = n.args in Walkable a.at a.src.now n.note_tags.new.tables)
tables n =
    let a = n.args in
    noted-line a.kind a.at a.src.now n.requires.line_of n.requires.kind_value _ n.note_tags.ensures

pub note_tags-requires : goal.note_tags-requires
note_tags-requires c =
    let told = noting c.args.kind c.args.at c.args.src.now c.requires.line_of c.requires.kind_value in
    record { at_field = told.0; each = told.1.0; line_bound = told.1.1.0; tables_len = told.1.1.1 }

pub is_writable-requires : goal.is_writable-requires
is_writable-requires c = record {
  line_of = c.requires.line_of;
  kind_value = c.requires.kind_value;
  walkable = tables (goal.at.is_writable-requires c).After-note_tags;
}

pub returns-then-not-is_writable : goal.returns-then-not-is_writable
unfolding line_size
returns-then-not-is_writable c = rw (sym c.is_writable.ensures ∙ not-true c.is_writable.result c.if-not-is_writable.true-raw) refl

pub find_keys-keys-requires : goal.find_keys-keys-requires
find_keys-keys-requires c = record {
  walkable = tables (goal.at.find_keys-keys-requires c).After-note_tags;
  src_bound = omega (arith, c.requires.line_of.short);
}

pub other_fields_len-others-requires : goal.other_fields_len-others-requires
other_fields_len-others-requires c = record {
  walkable = tables (goal.at.other_fields_len-others-requires c).After-note_tags;
  line_bound = c.requires.line_of.short;
}

pub parts_len-requires : goal.parts_len-requires
parts_len-requires c = record {
  line_of = c.requires.line_of;
  kind_value = c.requires.kind_value;
  keys_value = c.find_keys-keys.ensures;
  others_value = c.other_fields_len-others.ensures;
}

pub returns : goal.returns
unfolding line_size
returns c =
    rw (sym c.is_writable.ensures ∙ not-false c.is_writable.result c.if-not-is_writable.false-raw) (ap Some c.parts_len.ensures)
