-- `name_list::count_block` meets its contract: the LFs that were passed, and those that are left.
use Prim.Native.Nat.{ℕ, ◌+◌, ◌<◌}
use mathlib.Core.Path.{◌≡◌, ap}
use native.Mathlib.Omega.{arith}
use lib.ListN.{length, drop}
use Rattle.name_list.specs.Ends.{ends}
use Rattle.name_list.proofs.Asked.{ends-one, ends_on}
use Rattle.name_list.proofs.count_block.Goals as goal
use Rattle.name_list.proofs.count_block.Goals.{then-list-at-eq10, else-list-at-eq10}

pub loop-i-preserved : goal.loop-i-preserved
loop-i-preserved c =
    let a = c.args in
    let at : ℕ = a.at + c.loop-i.i in
    let in_list : at < length a.list.now = omega (arith, c.requires) in
    let z : at + 1 ≡ a.at + (c.loop-i.i + 1) = omega arith in
    let on = ap (λ m. ends (drop m a.list.now)) z in
    elim c.if-list-at-eq10.branch [
      | then-list-at-eq10 w ↦ (omega (arith, w.n-is, c.loop-i.invariant.0), omega (arith, w.n-is, c.loop-i.invariant.1, ends-one a.list.now at in_list w.if-list-at-eq10.true, on))
      | else-list-at-eq10 w ↦ (omega (arith, w.n-is, c.loop-i.invariant.0), omega (arith, w.n-is, c.loop-i.invariant.1, ends_on a.list.now at in_list w.if-list-at-eq10.false, on))
    ]
