-- `merge_fields::same_field` meets its contract: the tags decide, and then the values.
use Prim.Native.Nat.{◌+◌, ◌-◌}
use mathlib.Core.Path.{◌≡◌, sym, ap, ap₂, ◌∙◌}
use mathlib.Core.Bool.{◌&&◌}
use native.Mathlib.Omega.{arith}
use lib.ListN.{take, drop}
use Rattle.format.specs.Bytes.{same}
use Rattle.format.specs.Fields.{tagged}
use Rattle.format.specs.Merge.{same_field}
use Rattle.merge_fields.specs.Kept.{told_field}
use Rattle.merge_fields.proofs.same_field.Goals as goal

pub returns-then-not-is_same_tag : goal.returns-then-not-is_same_tag
unfolding same_field tagged told_field
returns-then-not-is_same_tag c =
    let a = c.args in
    sym (ap (λ b. b && same (told_field 0 a.a.now a.f).value.bytes (told_field 0 a.b.now a.g).value.bytes) (sym c.is_same_tag.ensures ∙ c.if-not-is_same_tag.true))

pub returns : goal.returns
unfolding same_field tagged told_field
returns c =
    let a = c.args in
    let f = c.args.f in
    let g = c.args.g in
    let y : f.from + f.len - f.from ≡ f.len = omega arith in
    let z : g.from + g.len - g.from ≡ g.len = omega arith in
    c.same.ensures ∙ ap₂ (λ m n. same (take m (drop f.from a.a.now)) (take n (drop g.from a.b.now))) y z
    ∙ sym (ap (λ b. b && same (told_field 0 a.a.now f).value.bytes (told_field 0 a.b.now g).value.bytes) (sym c.is_same_tag.ensures ∙ c.if-not-is_same_tag.false))
