-- `program_lines::places_of` meets its contract: the line is walked by what is lent.
use Rattle.program_lines.proofs.Lent.{once, noting, tabled}
use Rattle.program_lines.proofs.places_of.Goals as goal

pub find_places-requires : goal.find_places-requires
find_places-requires c =
    let a = c.args in record {
      walkable = once a.strict a.at a.line.now c.requires c.is_once.result c.is_once.ensures c.if-is_once.true;
      line_bound = c.requires.short;
    }

pub note_tags-requires : goal.note_tags-requires
note_tags-requires c =
    let a = c.args in
    let told = noting a.strict a.at a.line.now c.requires in
    record { at_field = told.0; each = told.1.0; line_bound = told.1.1.0; tables_len = told.1.1.1 }

pub find_places-requires-2 : goal.find_places-requires-2
find_places-requires-2 c =
    let a = c.args in record {
      walkable = tabled a.strict a.at a.line.now c.requires _ c.note_tags.ensures;
      line_bound = c.requires.short;
    }
