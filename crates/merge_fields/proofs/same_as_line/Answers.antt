-- `merge_fields::same_as_line` meets its contract: the second line is walked by what is lent.
use Rattle.program_lines.proofs.Lent.{once, noting, tabled}
use Rattle.merge_fields.proofs.same_as_line.Goals as goal

pub same_walks-requires : goal.same_walks-requires
same_walks-requires c =
    let a = c.args in record {
      walkable = c.requires.walkable;
      a_bound = c.requires.a_bound;
      walkable_2 = once a.strict a.at_b a.b.now c.requires.fields_of c.is_once.result c.is_once.ensures c.if-is_once.true;
      b_bound = c.requires.fields_of.short;
    }

pub note_tags-requires : goal.note_tags-requires
note_tags-requires c =
    let a = c.args in
    let told = noting a.strict a.at_b a.b.now c.requires.fields_of in
    record { at_field = told.0; each = told.1.0; line_bound = told.1.1.0; tables_len = told.1.1.1 }

pub same_walks-requires-2 : goal.same_walks-requires-2
same_walks-requires-2 c =
    let a = c.args in record {
      walkable = c.requires.walkable;
      a_bound = c.requires.a_bound;
      walkable_2 = tabled a.strict a.at_b a.b.now c.requires.fields_of _ c.note_tags.ensures;
      b_bound = c.requires.fields_of.short;
    }
