-- `byte_slices::is_free_block` meets its contract: after `i` bytes the flag says whether all of them are others than `d`.
use mathlib.Core.Path.{sym, ◌∙◌}
use native.Mathlib.Omega.{arith}
use lib.ListN.{drop}
use borrow.Author.Tests.{le-leb}
use Rattle.byte_slices.specs.Upto.{upto}
use Rattle.byte_slices.proofs.Run.{free-pass, free-stop}
use Rattle.byte_slices.proofs.is_free_block.Goals as goal
use Rattle.byte_slices.proofs.is_free_block.Goals.{then-s-at, else-s-at}

pub loop-i-init : goal.loop-i-init
loop-i-init c = let a = c.args in sym (le-leb 0 (upto a.d (drop a.at a.s.now)) (omega arith))

pub loop-i-preserved : goal.loop-i-preserved
loop-i-preserved c =
    let a = c.args in
    elim c.if-s-at.branch [
      | then-s-at w ↦ w.free-is ∙ sym (free-stop a.d a.s.now a.at c.loop-i.i (omega arith) w.if-s-at.true)
      | else-s-at w ↦ w.free-is ∙ c.loop-i.invariant ∙ free-pass a.d a.s.now a.at c.loop-i.i (omega arith) w.if-s-at.false
    ]
