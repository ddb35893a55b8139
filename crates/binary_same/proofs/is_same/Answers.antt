-- `binary_same::is_same` meets its contract: the lengths decide, and then the names.
use Prim.Native.Nat.{◌+◌, ◌-◌}
use mathlib.Core.Path.{◌≡◌, ap₂, ◌∙◌}
use native.Mathlib.Omega.{arith}
use lib.ListN.{take, drop}
use Rattle.format.specs.Bytes.{same}
use Rattle.binary_parts.specs.Parts.{reference_in}
use Rattle.binary_references.specs.Next.{told_reference}
use Rattle.binary_same.proofs.Alike.{other-size, one_size}
use Rattle.binary_same.proofs.is_same.Goals as goal

pub returns-then-reference-next : goal.returns-then-reference-next
unfolding reference_in told_reference
returns-then-reference-next c =
    let a = c.args in
    other-size (reference_in a.bytes.now a.reference) (told_reference a.text.now a.next) c.if-reference-next.true

pub returns : goal.returns
unfolding reference_in told_reference
returns c =
    let a = c.args in
    let r = c.args.reference in
    let q = c.args.next.name in
    let y : r.name + r.len - r.name ≡ r.len = omega arith in
    let z : q.at + q.len - q.at ≡ q.len = omega arith in
    c.same.ensures ∙ ap₂ (λ m n. same (take m (drop r.name a.bytes.now)) (take n (drop q.at a.text.now))) y z
    ∙ one_size (reference_in a.bytes.now r) (told_reference a.text.now a.next) c.if-reference-next.false
