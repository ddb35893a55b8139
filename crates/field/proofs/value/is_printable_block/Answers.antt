-- `field::value::is_printable_block` meets its contract: after `i` bytes the flag says whether all of them may be in a value.
use mathlib.Core.Path.{◌≡◌, sym, ap, ◌∙◌}
use native.Mathlib.Omega.{arith}
use lib.ListN.{drop}
use lib.Dec.{leb}
use borrow.Author.Tests.{le-leb}
use Rattle.format.specs.Bytes.{printable}
use Rattle.byte_slices.specs.Run.{run}
use Rattle.byte_slices.proofs.Run.{flag-pass, flag-stop}
use Rattle.field.proofs.value.is_printable_block.Goals as goal
use Rattle.field.proofs.value.is_printable_block.Goals.{then-not-is_printable, else-not-is_printable}

pub loop-i-init : goal.loop-i-init
loop-i-init c = let a = c.args in (omega arith, sym (le-leb 0 (run printable (drop a.at a.s.now)) (omega arith)))

pub overflow_add-at : goal.overflow_add-at
overflow_add-at c = omega arith

pub bounds-s-at : goal.bounds-s-at
bounds-s-at c = omega arith

pub overflow_add-i : goal.overflow_add-i
overflow_add-i c = omega arith

pub loop-i-smaller : goal.loop-i-smaller
loop-i-smaller c = omega arith

pub loop-i-preserved : goal.loop-i-preserved
loop-i-preserved c =
    let a = c.args in (
      omega arith,
      elim c.if-not-is_printable.branch [
        | then-not-is_printable w ↦
            w.fine-is ∙ sym (flag-stop printable a.s.now a.at c.loop-i.i (omega arith) (sym c.is_printable.ensures ∙ w.if-not-is_printable.true))
        | else-not-is_printable w ↦
            w.fine-is
            ∙ c.loop-i.invariant.1
            ∙ flag-pass printable a.s.now a.at c.loop-i.i (omega arith) (sym c.is_printable.ensures ∙ w.if-not-is_printable.false)
      ],
    )

pub returns : goal.returns
returns c =
    let a = c.args in
    let e : c.loop-i.i ≡ 8 = omega arith in
    c.loop-i.invariant.1 ∙ ap (λ i. leb i (run printable (drop a.at a.s.now))) e
