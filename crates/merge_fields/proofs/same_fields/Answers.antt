-- `merge_fields::same_fields` meets its contract: the first line is walked by what is lent.
use Rattle.program_lines.proofs.Lent.{once, noting, tabled}
use Rattle.merge_fields.proofs.same_fields.Goals as goal

pub same_as_line-requires : goal.same_as_line-requires
same_as_line-requires c =
    let a = c.args in record {
      walkable = once a.strict_a a.at_a a.a.now c.requires.fields_of c.is_once.result c.is_once.ensures c.if-is_once.true;
      a_bound = c.requires.fields_of.short;
      fields_of = c.requires.fields_of_2;
    }

pub note_tags-requires : goal.note_tags-requires
note_tags-requires c =
    let a = c.args in
    let told = noting a.strict_a a.at_a a.a.now c.requires.fields_of in
    record { at_field = told.0; each = told.1.0; line_bound = told.1.1.0; tables_len = told.1.1.1 }

pub same_as_line-requires-2 : goal.same_as_line-requires-2
same_as_line-requires-2 c =
    let a = c.args in record {
      walkable = tabled a.strict_a a.at_a a.a.now c.requires.fields_of _ c.note_tags.ensures;
      a_bound = c.requires.fields_of.short;
      fields_of = c.requires.fields_of_2;
    }
