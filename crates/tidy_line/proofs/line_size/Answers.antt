-- `tidy_line::line_size` meets its contract: a line that is accepted is accepted where repeated tags are allowed too, as the same record.
use mathlib.Core.Path.{◌≡◌, sym, ap, subst, ◌∙◌}
use mathlib.Core.Bool.{false}
use mathlib.Core.List.{[], ◌∷◌}
use native.Mathlib.Omega.{arith}
use lib.ListN.{length, length-append}
use Rattle.format.specs.Records.{line}
use Rattle.accepted_line.specs.Form.{IsForm}
use Rattle.accepted_line.specs.declared.Form.{Form}
use Rattle.accepted_line.proofs.Lax.{line-lax}
use Rattle.tidy_line.specs.Line.{line_size}
use Rattle.std.specs.Prelude.{Some}
use Rattle.tidy_line.proofs.Whole.{comment-text}
use Rattle.tidy_line.proofs.line_size.Goals as goal
use Rattle.tidy_line.proofs.line_size.Goals.{After-form_of, Start}

same : (s : Start) → (let a = s.args in line a.strict (record { at = a.at; bytes = a.src.now }) ≡ line false (record { at = a.at; bytes = a.src.now }))
same s = line-lax s.args.strict (record { at = s.args.at; bytes = s.args.src.now }) s.requires.src_value

-- the form of the line is `x`
formed : (f : After-form_of) (x : Form) → f.form_of.result ≡ x → (let a = f.args in IsForm a.at a.src.now x)
formed f x e = let a = f.args in subst (IsForm a.at a.src.now) e f.form_of.ensures.right

pub once_size-requires : goal.once_size-requires
unfolding IsForm
once_size-requires c =
    let i = formed (goal.at.once_size-requires c).After-form_of _ c.in-Once.is in record {
      line_of = i.0;
      kind_value = i.1;
      at_field = i.2;
    }

pub noted_size-requires : goal.noted_size-requires
unfolding IsForm
noted_size-requires c =
    let told = formed (goal.at.noted_size-requires c).After-form_of _ c.in-Repeating.is in
    record { line_of = told.0; kind_value = told.1 }

pub returns-in-Comment : goal.returns-in-Comment
unfolding IsForm line_size
returns-in-Comment c =
    let a = c.args in
    let i = formed (goal.at.returns-in-Comment c).After-form_of _ c.in-Comment.is in
    let w = comment-text a.at a.src.now i.accepted i.kind in
    rw (same (goal.at.returns-in-Comment c).Start, w.1) (ap Some (omega (arith, ap length w.0, length-append a.src.now (10 ∷ []))))

pub returns-in-Once : goal.returns-in-Once
returns-in-Once c = c.once_size.ensures ∙ ap line_size (sym (same (goal.at.returns-in-Once c).Start))

pub returns-in-Repeating : goal.returns-in-Repeating
returns-in-Repeating c = c.noted_size.ensures ∙ ap line_size (sym (same (goal.at.returns-in-Repeating c).Start))
