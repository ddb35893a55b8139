-- `field::value::value_len` meets its contract: what the whole asks is what is left to do at the place `i`.
use Prim.Native.Nat.{ℕ, ◌*◌, ◌/◌, ◌≤◌}
use mathlib.Core.Path.{◌≡◌, sym, ◌∙◌}
use mathlib.Core.List.{List}
use native.Mathlib.Omega.{arith}
use lib.ListN.{length}
use borrow.Author.Tests.{not-true, not-false}
use Rattle.format.specs.Bytes.{printable}
use Rattle.format.specs.Fields.{is_value}
use Rattle.byte_slices.specs.Upto.{before}
use Rattle.byte_slices.specs.Run.{run}
use Rattle.byte_slices.proofs.Run.{run-le}
use Rattle.field.specs.Taken.{taken_of}
use Rattle.field.proofs.value.Value.{left, left-run, at-end, at-tab, at-wrong, at_next}
use Rattle.field.proofs.value.value_len.Goals as goal

-- whole blocks were passed
started : (s : List ℕ) (i : ℕ) → i ≡ run printable s / 8 * 8 → (i ≤ length s) × (taken_of is_value (before 9 s) ≡ left i s)
started s i e = (omega (arith, run-le printable s), left-run s i (omega arith))

pub loop-i-init : goal.loop-i-init
loop-i-init c = started _ _ c.pass_printable-i.ensures

pub returns-then-b-eq9 : goal.returns-then-b-eq9
returns-then-b-eq9 c =
    sym (c.loop-i.invariant.1 ∙ at-tab _ c.loop-i.i (omega arith) c.if-b-eq9.true)

pub returns-then-not-is_printable : goal.returns-then-not-is_printable
returns-then-not-is_printable c =
    sym (c.loop-i.invariant.1 ∙ at-wrong _ c.loop-i.i (omega arith) c.if-b-eq9.false (sym c.is_printable.ensures ∙ not-true _ c.if-not-is_printable.true-raw))

pub loop-i-preserved : goal.loop-i-preserved
loop-i-preserved c =
    (omega arith, c.loop-i.invariant.1 ∙ at_next _ c.loop-i.i (omega arith) (sym c.is_printable.ensures ∙ not-false _ c.if-not-is_printable.false-raw))

pub returns : goal.returns
returns c =
    let e : length c.args.src.now ≡ c.loop-i.i = omega arith in
    e ∙ sym (c.loop-i.invariant.1 ∙ at-end _ c.loop-i.i c.loop-i-test.false)
