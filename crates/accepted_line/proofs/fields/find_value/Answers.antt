-- `accepted_line::fields::find_value` meets its contract: a search where no tag is repeated, and otherwise the tables.
use mathlib.Core.Path.{sym, subst, ◌∙◌}
use Rattle.format.specs.Bytes.{none?}
use Rattle.accepted_line.specs.Run.{AtField}
use Rattle.accepted_line.proofs.fields.Here.{laxly}
use Rattle.accepted_line.proofs.fields.find_value.Goals as goal

pub has_no_repeat-requires : goal.has_no_repeat-requires
has_no_repeat-requires c = tt

pub only_value-requires : goal.only_value-requires
only_value-requires c = record {
  at_field = subst (λ t. AtField t c.args.at c.args.line.now 3) (sym c.has_no_repeat.ensures ∙ c.if-has_no_repeat.true) c.requires.walkable.start;
  line_bound = c.requires.line_bound;
}

pub noted_value-requires : goal.noted_value-requires
noted_value-requires c =
    let a = c.args in record {
      at_field = laxly (none? a.tables.now) a.at a.line.now 3 c.requires.walkable.start;
      noted = c.requires.walkable.tables (sym c.has_no_repeat.ensures ∙ c.if-has_no_repeat.false);
      b_value = c.requires.b_value;
      line_bound = c.requires.line_bound;
    }
