-- `merge_hints::number` meets its contract.
use Prim.Native.Nat.{◌+◌, ◌-◌}
use mathlib.Core.Path.{◌≡◌, ap, ◌∙◌}
use native.Mathlib.Omega.{arith}
use lib.ListN.{take, drop}
use Rattle.key_look.specs.Hash.{key_hash}
use Rattle.binary_references.specs.Next.{told_reference}
use Rattle.merge_hints.proofs.number.Goals as goal

pub returns : goal.returns
unfolding told_reference
returns c =
    let a = c.args in
    let r = c.args.r.name in
    let n : r.at + r.len - r.at ≡ r.len = omega arith in
    c.hash.ensures ∙ ap (λ k. key_hash 2 (take k (drop r.at a.text.now))) n
