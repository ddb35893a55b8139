-- `byte_slices::pass_blocks` meets its contract: what was passed is whole blocks, and what was passed and what is still to pass add up.
use Prim.Native.Nat.{ℕ, ◌+◌, ◌*◌, ◌/◌}
use mathlib.Core.Path.{◌≡◌, sym, ◌∙◌}
use mathlib.Core.Bool.{true, false}
use mathlib.Core.List.{List}
use native.Mathlib.Omega.{arith}
use lib.ListN.{length, drop}
use lib.Dec.{leb}
use borrow.Author.Tests.{leb-true, leb-false}
use Rattle.byte_slices.specs.Upto.{upto}
use Rattle.byte_slices.proofs.Lines.{upto_le}
use Rattle.byte_slices.proofs.Run.{upto-onward}
use Rattle.byte_slices.proofs.pass_blocks.Goals as goal

-- `k` blocks were passed
module _ (d : ℕ) (s : List ℕ) (k : ℕ) (e : upto d s ≡ k * 16 + upto d (drop (k * 16) s)) where
  met : leb 16 (upto d (drop (k * 16) s)) ≡ false → k * 16 ≡ upto d s / 16 * 16
  met f = omega (arith, leb-false 16 (upto d (drop (k * 16) s)) f)

  passed : leb 16 (upto d (drop (k * 16) s)) ≡ true → upto d s ≡ (k + 1) * 16 + upto d (drop ((k + 1) * 16) s)
  passed t = upto-onward d s ((k + 1) * 16) (omega (arith, leb-true 16 (upto d (drop (k * 16) s)) t))

  spent : length s / 16 ≡ k → length s / 16 * 16 ≡ upto d s / 16 * 16
  spent h = omega (arith, upto_le d s)

pub returns-then-not-is_free_block : goal.returns-then-not-is_free_block
returns-then-not-is_free_block c =
    met _ _ _ c.loop-block.invariant (sym c.is_free_block.ensures ∙ c.if-not-is_free_block.true)

pub loop-block-preserved : goal.loop-block-preserved
loop-block-preserved c =
    passed _ _ _ c.loop-block.invariant (sym c.is_free_block.ensures ∙ c.if-not-is_free_block.false)

pub returns : goal.returns
returns c = spent _ _ c.loop-block.block c.loop-block.invariant (omega arith)
