-- `catalogue_lines::same_formed` meets its contract: in each form the entries of the line are compared.
use Prim.Native.Nat.{◌+◌}
use mathlib.Core.Path.{◌≡◌, sym, ap, subst, ◌∙◌}
use mathlib.Core.Bool.{false}
use native.Mathlib.Omega.{arith}
use lib.ListN.{drop}
use Rattle.format.specs.Bytes.{starts}
use Rattle.accepted_line.proofs.fields.Start.{once-walkable}
use Rattle.accepted_line.specs.Form.{IsForm}
use Rattle.accepted_line.specs.declared.Form.{Form}
use Rattle.accepted_line.proofs.Noting.{noting, noted-line}
use Rattle.catalogue_lines.specs.Line.{line_bytes}
use Rattle.catalogue_lines.proofs.Starts.{match-told}
use Rattle.catalogue_lines.proofs.LineEntries.{comment-long}
use Rattle.catalogue_lines.proofs.same_formed.Goals as goal
use Rattle.catalogue_lines.proofs.same_formed.Goals.{After-same_entry, Start}

-- the form of the line is `x`
formed : (s : Start) (x : Form) → s.args.form ≡ x → IsForm s.args.place.at s.args.src.now x
formed s x e = subst (IsForm s.args.place.at s.args.src.now) e s.requires.form

pub comment_entry-entry-requires : goal.comment_entry-entry-requires
unfolding IsForm
comment_entry-entry-requires c = formed (goal.at.comment_entry-entry-requires c).Start _ c.in-Comment.is

pub same_entry-requires : goal.same_entry-requires
same_entry-requires c = c.requires.o_in_bounds

-- the test is the line's
told : (c : After-same_entry)
    → (let a = c.args in starts (line_bytes false a.place.number a.place.at a.src.now) (drop a.o a.catalogue.now) ≡ c.same_entry.result)
told c =
    let a = c.args in
    sym (c.same_entry.ensures ∙ ap (λ l. starts l (drop a.o a.catalogue.now)) c.comment_entry-entry.ensures)

pub returns-in-Comment : goal.returns-in-Comment
unfolding IsForm
returns-in-Comment c =
    let a = c.args in
    let k = goal.at.returns-in-Comment c in
    let i = formed k.Start _ c.in-Comment.is in
    c.then_some.ensures
    ∙ match-told a.catalogue.now a.o _ c.same_entry.result (a.o + 13) (told k.After-same_entry)
    (omega (arith, comment-long a.place.number a.place.at a.src.now i.accepted i.kind))

pub same_line-requires : goal.same_line-requires
unfolding IsForm
same_line-requires c =
    let i = formed (goal.at.same_line-requires c).Start _ c.in-Once.is in record {
      line_of = i.0;
      kind_value = i.1;
      walkable = once-walkable c.args.place.at c.args.src.now i.2;
      o_in_bounds = c.requires.o_in_bounds;
    }

pub note_tags-requires : goal.note_tags-requires
unfolding IsForm
note_tags-requires c =
    let i = formed (goal.at.note_tags-requires c).Start _ c.in-Repeating.is in
    let told = noting c.in-Repeating.kind c.args.place.at c.args.src.now i.0 i.1 in
    record { at_field = told.0; each = told.1.0; line_bound = told.1.1.0; tables_len = told.1.1.1 }

pub same_line-requires-in-Repeating : goal.same_line-requires-in-Repeating
unfolding IsForm
same_line-requires-in-Repeating c =
    let i = formed (goal.at.same_line-requires-in-Repeating c).Start _ c.in-Repeating.is in record {
      line_of = i.0;
      kind_value = i.1;
      walkable = noted-line c.in-Repeating.kind c.args.place.at c.args.src.now i.0 i.1 _ c.note_tags.ensures;
      o_in_bounds = c.requires.o_in_bounds;
    }

pub returns-in-Once : goal.returns-in-Once
returns-in-Once c = c.same_line.ensures

pub returns-in-Repeating : goal.returns-in-Repeating
returns-in-Repeating c = c.same_line-in-Repeating.ensures
