-- `catalogue_lines::put_formed` meets its contract: in each form the entries of the line are written.
use mathlib.Core.Path.{◌≡◌, ap, subst, ◌∙◌}
use native.Mathlib.Omega.{arith}
use lib.ListN.{length}
use Rattle.byte_slices.specs.Over.{over}
use Rattle.accepted_line.proofs.fields.Start.{once-walkable}
use Rattle.accepted_line.specs.Form.{IsForm}
use Rattle.accepted_line.specs.declared.Form.{Form}
use Rattle.accepted_line.proofs.Noting.{noting, noted-line}
use Rattle.catalogue_entries.proofs.Written.{entry_length_lem}
use Rattle.catalogue_lines.proofs.put_formed.Goals as goal
use Rattle.catalogue_lines.proofs.put_formed.Goals.{Start}

-- the form of the line is `x`
formed : (s : Start) (x : Form) → s.args.form ≡ x → IsForm s.args.place.at s.args.src.now x
formed s x e = subst (IsForm s.args.place.at s.args.src.now) e s.requires.form

pub comment_entry-requires : goal.comment_entry-requires
unfolding IsForm
comment_entry-requires c = formed (goal.at.comment_entry-requires c).Start _ c.in-Comment.is

pub put_entry-requires : goal.put_entry-requires
put_entry-requires c =
    omega (arith, ap length c.comment_entry.ensures, entry_length_lem c.comment_entry.result, c.requires.src_in_bounds)

pub put_line_entries-requires : goal.put_line_entries-requires
unfolding IsForm
put_line_entries-requires c =
    let i = formed (goal.at.put_line_entries-requires c).Start _ c.in-Once.is in record {
      line_of = i.0;
      kind_value = i.1;
      walkable = once-walkable c.args.place.at c.args.src.now i.2;
      src_in_bounds = c.requires.src_in_bounds;
    }

pub note_tags-requires : goal.note_tags-requires
unfolding IsForm
note_tags-requires c =
    let i = formed (goal.at.note_tags-requires c).Start _ c.in-Repeating.is in
    let told = noting c.in-Repeating.kind c.args.place.at c.args.src.now i.0 i.1 in
    record { at_field = told.0; each = told.1.0; line_bound = told.1.1.0; tables_len = told.1.1.1 }

pub put_line_entries-requires-in-Repeating : goal.put_line_entries-requires-in-Repeating
unfolding IsForm
put_line_entries-requires-in-Repeating c =
    let i = formed (goal.at.put_line_entries-requires-in-Repeating c).Start _ c.in-Repeating.is in record {
      line_of = i.0;
      kind_value = i.1;
      walkable = noted-line c.in-Repeating.kind c.args.place.at c.args.src.now i.0 i.1 _ c.note_tags.ensures;
      src_in_bounds = c.requires.src_in_bounds;
    }

pub returns-in-Comment : goal.returns-in-Comment
returns-in-Comment c =
    let a = c.args in record {
      next = omega (arith, c.put_entry.ensures.next, ap length c.comment_entry.ensures, entry_length_lem c.comment_entry.result);
      wrote = c.put_entry.ensures.wrote ∙ ap (over a.out.now a.o) c.comment_entry.ensures;
    }
