-- `field::value::pass_printable` meets its contract: what was passed is whole blocks, and what was passed and what is still to pass add up.
use Prim.Native.Nat.{ℕ, ◌+◌, ◌-◌, ◌*◌, ◌/◌, ◌%◌, ◌<◌}
use mathlib.Core.Path.{◌≡◌, sym, ◌∙◌}
use mathlib.Core.Bool.{true, false}
use mathlib.Core.List.{List}
use native.Mathlib.Omega.{arith}
use lib.ListN.{length, drop}
use lib.Dec.{leb}
use borrow.Author.Tests.{leb-true, leb-false, not-true, not-false}
use Rattle.format.specs.Bytes.{printable}
use Rattle.byte_slices.specs.Run.{run}
use Rattle.byte_slices.proofs.Run.{run-le, run_drop}
use Rattle.field.proofs.value.pass_printable.Goals as goal

-- `i` bytes were passed
module _ (s : List ℕ) (i : ℕ) (w : i % 8 ≡ 0) (e : run printable s ≡ i + run printable (drop i s)) where
  met : leb 8 (run printable (drop i s)) ≡ false → i ≡ run printable s / 8 * 8
  met f = omega (arith, leb-false 8 (run printable (drop i s)) f)

  passed : leb 8 (run printable (drop i s)) ≡ true → run printable s ≡ i + 8 + run printable (drop (i + 8) s)
  passed t = run_drop printable s (i + 8) (omega (arith, leb-true 8 (run printable (drop i s)) t))

  spent : length s - i < 8 → i ≡ run printable s / 8 * 8
  spent h = omega (arith, run-le printable s)

pub loop-at-init : goal.loop-at-init
loop-at-init c = (omega arith, omega arith, omega arith)

pub overflow_sub-s : goal.overflow_sub-s
overflow_sub-s c = omega arith

pub is_printable_block-requires : goal.is_printable_block-requires
is_printable_block-requires c = omega arith

pub returns-then-not-is_printable_block : goal.returns-then-not-is_printable_block
returns-then-not-is_printable_block c =
    met _ _ c.loop-at.invariant.1 c.loop-at.invariant.2 (sym c.is_printable_block.ensures ∙ not-true _ c.if-not-is_printable_block.true-raw)

pub overflow_add-at : goal.overflow_add-at
overflow_add-at c = omega arith

pub loop-at-smaller : goal.loop-at-smaller
loop-at-smaller c = omega arith

pub loop-at-preserved : goal.loop-at-preserved
loop-at-preserved c =
    (omega arith, omega arith, passed _ _ c.loop-at.invariant.1 c.loop-at.invariant.2 (sym c.is_printable_block.ensures ∙ not-false _ c.if-not-is_printable_block.false-raw))

pub returns : goal.returns
returns c =
    spent _ _ c.loop-at.invariant.1 c.loop-at.invariant.2 (omega arith)
