-- `merge_programs::is_image` meets its contract: the fields decide, and then the parents.
use Prim.Native.Nat.{ℕ, ◌+◌, ◌-◌}
use mathlib.Core.Path.{◌≡◌, sym, ap, ap₂, subst, ◌∙◌}
use mathlib.Core.Bool.{◌&&◌}
use mathlib.Core.List.{List}
use native.Mathlib.Omega.{arith}
use lib.ListN.{take, drop}
use Rattle.format.specs.Merge.{keeps_fields, keeps_parent, is_image}
use Rattle.program_chains.specs.Parents.{link_of}
use Rattle.program_lines.specs.Line.{FieldsOf}
use Rattle.merge_fields.specs.Kept.{kept_from}
use Rattle.merge_programs.specs.declared.Member.{Member}
use Rattle.merge_programs.specs.Members.{line_at, shape_at, IsMember}
use Rattle.merge_programs.proofs.is_image.Goals as goal
use Rattle.merge_programs.proofs.is_image.Goals.{After-same_fields}

-- the part of the text that a line is lent as
lent_is : (t : List ℕ) (p : Member) → take (p.at + p.len - p.at) (drop p.at t) ≡ line_at t p
lent_is t p = let n : p.at + p.len - p.at ≡ p.len = omega arith in ap (λ k. take k (drop p.at t)) n

lent-fields : (t : List ℕ) (p : Member) → IsMember t p → FieldsOf p.strict p.at (take (p.at + p.len - p.at) (drop p.at t))
lent-fields t p h = subst (FieldsOf p.strict p.at) (sym (lent_is t p)) h.line

pub same_fields-requires : goal.same_fields-requires
same_fields-requires c =
    let a = c.args in record {
      fields_of = lent-fields a.a.now a.p c.requires.member;
      fields_of_2 = lent-fields a.m.now a.image c.requires.member_2;
    }

-- the fields decide, and then the parents
told : (c : After-same_fields)
    → (let a = c.args in
    is_image a.list.now (shape_at a.a.now a.p) (shape_at a.m.now a.image) ≡ c.same_fields.result && keeps_parent a.list.now (link_of a.p.parent) (link_of a.image.parent))
unfolding is_image shape_at
told c =
    let a = c.args in
    ap (λ b. b && keeps_parent a.list.now (link_of a.p.parent) (link_of a.image.parent))
    (sym (c.same_fields.ensures ∙ ap₂ (λ x y. keeps_fields (kept_from a.p.at x 3) (kept_from a.image.at y 3)) (lent_is a.a.now a.p) (lent_is a.m.now a.image)))

pub returns-then-not-same_fields : goal.returns-then-not-same_fields
returns-then-not-same_fields c =
    let a = c.args in
    sym (told (goal.at.returns-then-not-same_fields c).After-same_fields ∙ ap (λ b. b && keeps_parent a.list.now (link_of a.p.parent) (link_of a.image.parent)) c.if-not-same_fields.true)

pub returns : goal.returns
returns c =
    let a = c.args in
    c.keeps_parent.ensures
    ∙ sym (told (goal.at.returns c).After-same_fields ∙ ap (λ b. b && keeps_parent a.list.now (link_of a.p.parent) (link_of a.image.parent)) c.if-not-same_fields.false)
