-- `merge_references::same_name` meets its contract.
use Prim.Native.Nat.{◌+◌, ◌-◌}
use mathlib.Core.Path.{◌≡◌, ap₂, ◌∙◌}
use native.Mathlib.Omega.{arith}
use lib.ListN.{take, drop}
use Rattle.format.specs.Bytes.{same}
use Rattle.binary_references.specs.Next.{told_reference}
use Rattle.format.specs.Merge.{same_name}
use Rattle.merge_references.proofs.same_name.Goals as goal

pub returns : goal.returns
unfolding same_name told_reference
returns c =
    let a = c.args in
    let r = c.args.r.name in
    let q = c.args.q.name in
    let y : r.at + r.len - r.at ≡ r.len = omega arith in
    let z : q.at + q.len - q.at ≡ q.len = omega arith in
    c.same.ensures ∙ ap₂ (λ m n. same (take m (drop r.at a.a.now)) (take n (drop q.at a.b.now))) y z
