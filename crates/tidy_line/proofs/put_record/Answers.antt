-- `tidy_line::put_record` meets its contract: a line that is accepted is accepted where repeated tags are allowed too, as the same record.
use Prim.Native.Nat.{◌+◌, ◌≤◌}
use mathlib.Core.Path.{◌≡◌, ap, subst, ◌∙◌}
use mathlib.Core.Bool.{false}
use mathlib.Core.List.{[], ◌∷◌, ◌++◌}
use native.Mathlib.Omega.{arith}
use lib.ListN.{length, length-append}
use Rattle.format.specs.Records.{line}
use Rattle.accepted_line.specs.Form.{IsForm}
use Rattle.accepted_line.specs.declared.Form.{Form}
use Rattle.accepted_line.proofs.Lax.{line-lax}
use Rattle.accepted_line.proofs.Noting.{noting, noted-line}
use Rattle.tidy_line.specs.Line.{line_text}
use Rattle.tidy_line.proofs.Whole.{comment-text}
use Rattle.tidy_line.proofs.put_record.Goals as goal
use Rattle.tidy_line.proofs.put_record.Goals.{After-form_of, In-Comment, Start}

same : (s : Start) → (let a = s.args in line a.strict (record { at = a.at; bytes = a.src.now }) ≡ line false (record { at = a.at; bytes = a.src.now }))
same s = line-lax s.args.strict (record { at = s.args.at; bytes = s.args.src.now }) s.requires.src_value

room : (s : Start) → (let a = s.args in a.o + length (line_text (line false (record { at = a.at; bytes = a.src.now }))) ≤ length a.out.now)
room s = subst (λ l. s.args.o + length (line_text l) ≤ length s.args.out.now) (same s) s.requires.src_in_bounds

-- the form of the line is `x`
formed : (f : After-form_of) (x : Form) → f.form_of.result ≡ x → (let a = f.args in IsForm a.at a.src.now x)
formed f x e = let a = f.args in subst (IsForm a.at a.src.now) e f.form_of.ensures.right

-- a comment is its record's text
whole : (e : In-Comment) → (let a = e.args in line_text (line false (record { at = a.at; bytes = a.src.now })) ≡ a.src.now ++ (10 ∷ []))
unfolding IsForm
whole e =
    let a = e.args in
    let i = formed (goal.at.In-Comment e).After-form_of _ e.in-Comment.is in
    (comment-text a.at a.src.now i.accepted i.kind).0

pub put_whole-requires : goal.put_whole-requires
put_whole-requires c =
    omega (arith, room (goal.at.put_whole-requires c).Start, ap length (whole (goal.at.put_whole-requires c).In-Comment), length-append c.args.src.now (10 ∷ []))

pub put_once-requires : goal.put_once-requires
unfolding IsForm
put_once-requires c =
    let i = formed (goal.at.put_once-requires c).After-form_of _ c.in-Once.is in record {
      line_of = i.0;
      kind_value = i.1;
      at_field = i.2;
      src_in_bounds = room (goal.at.put_once-requires c).Start;
    }

pub note_tags-requires : goal.note_tags-requires
unfolding IsForm
note_tags-requires c =
    let a = c.args in
    let i = formed (goal.at.note_tags-requires c).After-form_of _ c.in-Repeating.is in
    let told = noting c.in-Repeating.kind a.at a.src.now i.0 i.1 in
    record { at_field = told.0; each = told.1.0; line_bound = told.1.1.0; tables_len = told.1.1.1 }

pub put_parts-requires : goal.put_parts-requires
unfolding IsForm
put_parts-requires c =
    let i = formed (goal.at.put_parts-requires c).After-form_of _ c.in-Repeating.is in record {
      line_of = i.0;
      kind_value = i.1;
      walkable = noted-line c.in-Repeating.kind c.args.at c.args.src.now i.0 i.1 _ c.note_tags.ensures;
      src_in_bounds = room (goal.at.put_parts-requires c).Start;
    }

pub returns-in-Comment : goal.returns-in-Comment
returns-in-Comment c =
    rw (ap line_text (same (goal.at.returns-in-Comment c).Start) ∙ whole (goal.at.returns-in-Comment c).In-Comment) c.put_whole.ensures

pub returns-in-Once : goal.returns-in-Once
returns-in-Once c =
    rw (ap line_text (same (goal.at.returns-in-Once c).Start)) c.put_once.ensures

pub returns-in-Repeating : goal.returns-in-Repeating
returns-in-Repeating c =
    rw (ap line_text (same (goal.at.returns-in-Repeating c).Start)) c.put_parts.ensures
