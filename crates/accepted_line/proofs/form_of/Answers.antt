-- `accepted_line::form_of` meets its contract: a line that is accepted is accepted where repeated tags are allowed too.
use Prim.Native.Nat.{ℕ}
use mathlib.Core.Path.{◌≡◌, refl, sym, ap, ◌∙◌}
use mathlib.Core.Bool.{Bool, true, false, ◌||◌}
use mathlib.Core.List.{List}
use native.Mathlib.Omega.{arith}
use lib.ListN.{get_or, replicate}
use Rattle.format.specs.declared.Kind.{Kind}
use Rattle.accepted_line.specs.Run.{AtField, fields_from}
use Rattle.accepted_line.specs.Tables.{spread}
use Rattle.accepted_line.proofs.fields.Start.{once-start}
use Rattle.accepted_line.specs.Found.{kind_by, is_comment}
use Rattle.accepted_line.specs.Form.{LineOf, IsForm, form_of}
use Rattle.accepted_line.specs.declared.Form.TheVariants as form
use Rattle.accepted_line.proofs.Lax.{read-lax}
use Rattle.accepted_line.proofs.Finds.{comment-is, three, fielded}
use Rattle.accepted_line.proofs.form_of.Goals as goal
use Rattle.accepted_line.proofs.form_of.Goals.{Else-is_comment, Start}

-- ---- which form is answered

module _ (strict : Bool) (at : ℕ) (s : List ℕ) (k : Kind) (e : k ≡ kind_by (get_or s 1 0)) where
  form-comment : is_comment k ≡ true → form.Comment ≡ form_of strict at s
  unfolding form_of
  form-comment c = rw (← e, c) refl

  form-once : is_comment k ≡ false → (strict || spread (replicate 112 false) (fields_from at s 3)) ≡ true → form.Once k ≡ form_of strict at s
  unfolding form_of
  form-once c o = rw (← e, c, o) refl

  form-repeating : is_comment k ≡ false → (strict || spread (replicate 112 false) (fields_from at s 3)) ≡ false → form.Repeating k ≡ form_of strict at s
  unfolding form_of
  form-repeating c o = rw (← e, c, o) refl

-- ---- that the answer is right

-- the line is of the kind `k`
of : (s : Start) (k : Kind) → (let a = s.args in kind_by (get_or a.src.now 1 0) ≡ k → LineOf k a.at a.src.now)
of s k e = record { accepted = read-lax s.args.strict (record { at = s.args.at; bytes = s.args.src.now }) s.requires.src_value; kind = e; short = s.requires.src_bound }

-- it has fields
fields : (c : Else-is_comment) → (let a = c.args in AtField a.strict a.at a.src.now 3)
fields c =
    (fielded c.args.strict c.args.at c.args.src.now c.requires.src_value (ap is_comment (sym c.kind_of-kind.ensures) ∙ sym c.is_comment.ensures ∙ c.if-is_comment.false)).0

pub kind_of-kind-requires : goal.kind_of-kind-requires
kind_of-kind-requires c = three c.args.strict c.args.at c.args.src.now c.requires.src_value

pub returns-then-is_comment : goal.returns-then-is_comment
unfolding IsForm
returns-then-is_comment c = record {
  right = of (goal.at.returns-then-is_comment c).Start _ (sym c.kind_of-kind.ensures ∙ comment-is c.kind_of-kind.result (sym c.is_comment.ensures ∙ c.if-is_comment.true));
  is = form-comment c.args.strict c.args.at c.args.src.now c.kind_of-kind.result c.kind_of-kind.ensures (sym c.is_comment.ensures ∙ c.if-is_comment.true);
}

pub is_once-requires : goal.is_once-requires
is_once-requires c = record {
  at_field = fields c;
  line_bound = omega (arith, c.requires.src_bound);
}

pub returns-then-is_once : goal.returns-then-is_once
unfolding IsForm
returns-then-is_once c =
    let a = c.args in
    let n = sym c.is_comment.ensures ∙ c.if-is_comment.false in
    let o = sym c.is_once.ensures ∙ c.if-is_once.true in record {
      right = (of (goal.at.returns-then-is_once c).Start _ (sym c.kind_of-kind.ensures), n, once-start a.strict a.at a.src.now (fields (goal.at.returns-then-is_once c).Else-is_comment) o);
      is = form-once a.strict a.at a.src.now c.kind_of-kind.result c.kind_of-kind.ensures n o;
    }

pub returns : goal.returns
unfolding IsForm
returns c =
    let a = c.args in
    let n = sym c.is_comment.ensures ∙ c.if-is_comment.false in record {
      right = (of (goal.at.returns c).Start _ (sym c.kind_of-kind.ensures), n);
      is = form-repeating a.strict a.at a.src.now c.kind_of-kind.result c.kind_of-kind.ensures n (sym c.is_once.ensures ∙ c.if-is_once.false);
    }
