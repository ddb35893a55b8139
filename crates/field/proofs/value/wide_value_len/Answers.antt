-- `field::value::wide_value_len` meets its contract: whole blocks were passed, and what is left up to the next tab is whole characters or not.
use Prim.Native.Nat.{ℕ, ◌+◌, ◌-◌, ◌*◌, ◌/◌, ◌≤◌}
use mathlib.Core.Path.{◌≡◌, refl, sym, ap, ◌∙◌}
use mathlib.Core.Bool.{cond}
use mathlib.Core.List.{List, []}
use native.Mathlib.Omega.{arith}
use lib.ListN.{length, take, drop, length-drop}
use Rattle.format.specs.Bytes.{printable}
use Rattle.format.specs.Fields.{is_wide_value}
use Rattle.format.specs.Utf8.{characters}
use Rattle.byte_slices.specs.Run.{run}
use Rattle.byte_slices.specs.Upto.{upto, before}
use Rattle.byte_slices.proofs.Run.{run-le}
use Rattle.byte_slices.proofs.Lines.{upto_le}
use Rattle.field.specs.Taken.{taken_of}
use Rattle.byte_slices.proofs.Before.{rest}
use Rattle.field.proofs.value.Wide.{wide-left}
use Rattle.field.proofs.value.wide_value_len.Goals as goal

-- `i` bytes were passed as whole blocks, and `n` more come before the next tab
module _ (s : List ℕ) (i : ℕ) (e : i ≡ run printable s / 8 * 8) where
  start-within : i ≤ length s
  start-within = omega (arith, run-le printable s)

  module _ (n : ℕ) (q : n ≡ upto 9 (take (length s - i) (drop i s))) where
    found : n ≡ upto 9 (drop i s)
    found = q ∙ ap (upto 9) (rest i s)

    end-within : i + n ≤ length s
    end-within = omega (arith, start-within, found, upto_le 9 (drop i s), length-drop i s)

    judged : taken_of is_wide_value (before 9 s) ≡ cond (characters [] (take (i + n - i) (drop i s))) (i + n) 0
    unfolding before
    judged =
        let d : i + n - i ≡ n = omega arith in
        wide-left s i (omega arith) ∙ rw (d, found) refl

pub slice_bounds-upto-count : goal.slice_bounds-upto-count
slice_bounds-upto-count c = start-within _ _ c.pass_printable-start.ensures

pub slice_bounds-upto-start : goal.slice_bounds-upto-start
slice_bounds-upto-start c = start-within _ _ c.pass_printable-start.ensures

pub overflow_add-end : goal.overflow_add-end
overflow_add-end c = omega (arith, end-within _ _ c.pass_printable-start.ensures _ c.upto.ensures)

pub slice_bounds-is_whole-end : goal.slice_bounds-is_whole-end
slice_bounds-is_whole-end c = end-within _ _ c.pass_printable-start.ensures _ c.upto.ensures

pub returns-then-is_whole : goal.returns-then-is_whole
returns-then-is_whole c =
    sym (judged _ _ c.pass_printable-start.ensures _ c.upto.ensures ∙ ap (λ t. cond t (c.pass_printable-start.result + c.upto.result) 0) (sym c.is_whole.ensures ∙ c.if-is_whole.true))

pub returns : goal.returns
returns c =
    sym (judged _ _ c.pass_printable-start.ensures _ c.upto.ensures ∙ ap (λ t. cond t (c.pass_printable-start.result + c.upto.result) 0) (sym c.is_whole.ensures ∙ c.if-is_whole.false))
