-- `record_parser::fields::parse_long` meets its contract: every mark of the exact table is clear.
use mathlib.Core.Path.{refl}
use Rattle.record_parser.specs.Marks.{marks_of}
use Rattle.record_parser.proofs.fields.parse_long.Goals as goal

pub walk_fields-requires : goal.walk_fields-requires
unfolding marks_of
walk_fields-requires c = record {
  in_bounds = c.requires.in_bounds;
  src_bound = c.requires.src_bound;
  seen_value = refl;
}
