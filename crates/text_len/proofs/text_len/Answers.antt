-- `text_len::text_len` meets its contract: every line before `at` starts with `@`, so that what follows decides.
use Prim.Native.Nat.{◌+◌, ◌-◌, ◌≤◌, ◌<◌}
use mathlib.Core.Path.{◌≡◌, refl, sym, ap, ◌∙◌}
use native.Mathlib.Omega.{arith}
use lib.ListN.{length, drop, length-drop}
use lib.Seq.{drop-length}
use Rattle.format.specs.Lines.{lines}
use Rattle.byte_slices.specs.First.{first_line}
use Rattle.byte_slices.proofs.Before.{rest}
use Rattle.byte_slices.proofs.Lines.{lines_none}
use Rattle.byte_slices.proofs.First.{first-within, first_some}
use Rattle.format.specs.TextLen.{other_line, text_len}
use Rattle.text_len.proofs.HeaderLines.{line-passed, line_other}
use Rattle.text_len.proofs.text_len.Goals as goal
use Rattle.text_len.proofs.text_len.Goals.{After-struct_known-1}

pub loop-at-init : goal.loop-at-init
unfolding text_len lines
loop-at-init c = (omega arith, refl)

pub bounds-bytes-at : goal.bounds-bytes-at
bounds-bytes-at c = omega arith

pub returns-then-bytes-at-ne64 : goal.returns-then-bytes-at-ne64
returns-then-bytes-at-ne64 c =
    let s = c.args.bytes.now in
    sym (c.loop-at.invariant.1 ∙ line_other s c.loop-at.at c.loop-at-test.true (length s) c.if-bytes-at-ne64.true)

-- the line at `at`, in the rest of the bytes
next-is : (c : After-struct_known-1) → c.first_line-cut.result.next ≡ (first_line (drop c.loop-at.at c.args.bytes.now)).next
next-is c =
    let s = c.args.bytes.now in
    ap (λ r. r.next) c.first_line-cut.ensures ∙ ap (λ t. (first_line t).next) (rest c.loop-at.at s)

next-some : (c : After-struct_known-1) → 0 < c.first_line-cut.result.next
next-some c =
    let s = c.args.bytes.now in
    let d = drop c.loop-at.at s in
    omega (arith, (next-is c), first_some d (omega (arith, length-drop c.loop-at.at s)))

next-within : (c : After-struct_known-1) → c.loop-at.at + c.first_line-cut.result.next ≤ length c.args.bytes.now
next-within c =
    let s = c.args.bytes.now in
    let d = drop c.loop-at.at s in
    omega (arith, (next-is c), first-within d, length-drop c.loop-at.at s)

pub slice_bounds-first_line-count : goal.slice_bounds-first_line-count
slice_bounds-first_line-count c = omega arith

pub slice_bounds-first_line-start : goal.slice_bounds-first_line-start
slice_bounds-first_line-start c = omega arith

pub slice_bounds-first_line-end : goal.slice_bounds-first_line-end
slice_bounds-first_line-end c = omega arith

pub overflow_add-at : goal.overflow_add-at
overflow_add-at c = omega (arith, next-within c)

pub loop-at-smaller : goal.loop-at-smaller
loop-at-smaller c = omega (arith, next-within c, next-some c)

pub loop-at-preserved : goal.loop-at-preserved
loop-at-preserved c =
    let s = c.args.bytes.now in
    (next-within c, c.loop-at.invariant.1 ∙ rw (next-is c) (line-passed s c.loop-at.at c.loop-at-test.true (length s) c.if-bytes-at-ne64.false))

pub returns : goal.returns
unfolding other_line
returns c =
    let s = c.args.bytes.now in
    let z : c.loop-at.at ≡ length s = omega arith in
    sym (c.loop-at.invariant.1 ∙ rw (z, drop-length s, lines_none (length s)) refl)
