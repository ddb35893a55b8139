-- `fault_lines::put_lines` meets its contract: the rows that are written, and those of the lines still to come, are all.
use Prim.Native.Nat.{◌+◌, ◌*◌, ◌≤◌}
use mathlib.Core.Path.{◌≡◌, refl, sym, ap, ◌∙◌}
use native.Mathlib.Omega.{arith}
use lib.ListN.{length, drop}
use Rattle.byte_slices.specs.Over.{over}
use Rattle.byte_slices.proofs.Over.{over_none}
use Rattle.format.specs.Carrying.{rows}
use Rattle.carry_passes.specs.From.{lines_kept_from, kept_from}
use Rattle.carry_passes.specs.NextLine.{Turn}
use Rattle.carry_passes.proofs.Begun.{begun}
use Rattle.carry_passes.proofs.NextLine.{turn, none_left}
use Rattle.carry_passes.proofs.Steps.{turn-read}
use Rattle.format.specs.Faults.{if_faulty, faults_from}
use Rattle.fault_lines.specs.Links.{links_in}
use Rattle.fault_lines.proofs.Rows.{with-line, turn-rows, programs-within, row-none, row_one, row-over}
use Rattle.fault_lines.proofs.put_lines.Invariants.{to_come}
use Rattle.fault_lines.proofs.put_lines.Goals as goal
use Rattle.fault_lines.proofs.put_lines.Goals.{After-next_line-step, After-step_fault-n, At-loop-c}

-- the line of a step
turned : (c : After-next_line-step)
    → (let l = c.loop-c in let a = c.args in Turn a.b.strict a.text.now a.b.at l.c c.next_line-step.result.end c.next_line-step.result.refusal)
turned c =
    let l = c.loop-c in
    let a = c.args in
    turn a.b.strict a.text.now a.b.at l.area l.ids l.c l.invariant.0 c.loop-c-test.true c.next_line-step.result.end c.next_line-step.result.refusal
    c.next_line-step.ensures.end c.next_line-step.ensures.refusal

-- its rows, and those after it
come : (c : After-step_fault-n)
    → (let l = c.loop-c in let a = c.args in let d = c.next_line-step.result.next in
    to_come a.text.now a.b a.parents.now l.c ≡ rows (if_faulty (a.b.line + l.c.line) c.step_fault-n.result (faults_from (links_in a.parents.now) (a.b.line + d.line) d.programs (drop d.line (lines_kept_from a.text.now a.b)))))
come c =
    let l = c.loop-c in
    let a = c.args in
    let b = c.args.b in
    let w = c.next_line-step in
    turn-rows b.strict a.text.now b.at l.area l.ids l.c l.invariant.0 _ _ w.result.next w.ensures.next w.ensures.line w.result.end w.result.refusal (turned (goal.at.After-step_fault-n c).After-next_line-step)
    (links_in a.parents.now) b.line c.plain_fault-plain.result c.step_fault-n.result c.plain_fault-plain.ensures c.step_fault-n.ensures

-- line numbers are small
small : (c : At-loop-c) → ((c.loop-c.c.line ≤ 16777216) × (c.args.b.line ≤ 16777216))
small c =
    let l = c.loop-c in
    (omega (arith, l.invariant.0.slow, l.invariant.0.inside, c.requires.text_len_bound), omega (arith, c.requires.first.slow, c.requires.first.inside, c.requires.text_len_bound))

pub overflow_cast-row : goal.overflow_cast-row
overflow_cast-row c = omega (arith, c.requires.first.slow, c.requires.first.inside, c.requires.text_len_bound)

pub loop-c-init : goal.loop-c-init
loop-c-init c =
    let a = c.args in
    let b = c.args.b in
    let ks = links_in a.parents.now in
    let same : rows (faults_from ks (b.line + 0) 0 (lines_kept_from a.text.now b)) ≡ rows (faults_from ks b.line 0 (lines_kept_from a.text.now b)) =
    ap (λ k. rows (faults_from ks k 0 (lines_kept_from a.text.now b))) (let z : b.line + 0 ≡ b.line = omega arith in z) in (
      begun a.text.now b _ a.area.now a.ids.now c.requires.first c.requires.fresh,
      omega (arith, c.requires.b_in_bounds, ap length same),
      ap (over a.table.now (b.line * 2)) same,
      omega arith,
      refl,
      refl,
      refl,
    )

pub next_line-step-requires : goal.next_line-step-requires
next_line-step-requires c = record {
  text_len_bound = c.requires.text_len_bound;
  going = c.loop-c.invariant.0;
  at_in_bounds = c.loop-c-test.true;
}

pub overflow_cast-line : goal.overflow_cast-line
overflow_cast-line c = omega (arith, small (goal.at.overflow_cast-line c).At-loop-c)

pub overflow_add-line : goal.overflow_add-line
overflow_add-line c = omega (arith, small (goal.at.overflow_add-line c).At-loop-c)

pub slice_bounds-plain_fault-count : goal.slice_bounds-plain_fault-count
slice_bounds-plain_fault-count c = (turned (goal.at.slice_bounds-plain_fault-count c).After-next_line-step).start

pub slice_bounds-plain_fault-start : goal.slice_bounds-plain_fault-start
slice_bounds-plain_fault-start c = (turned (goal.at.slice_bounds-plain_fault-start c).After-next_line-step).start

pub slice_bounds-plain_fault-end : goal.slice_bounds-plain_fault-end
slice_bounds-plain_fault-end c = (turned (goal.at.slice_bounds-plain_fault-end c).After-next_line-step).inside

pub plain_fault-plain-requires : goal.plain_fault-plain-requires
plain_fault-plain-requires c =
    let a = c.args in
    let l = c.loop-c in
    let r = c.next_line-step.result in
    let u = turned (goal.at.plain_fault-plain-requires c).After-next_line-step in record {
      src_value = turn-read a.b.strict a.text.now a.b.at l.c r.end r.refusal u;
      src_bound = omega (arith, u.size, u.inside, c.requires.text_len_bound);
    }

pub step_fault-n-requires : goal.step_fault-n-requires
unfolding kept_from
step_fault-n-requires c =
    let a = c.args in
    let b = c.args.b in
    let l = c.loop-c in
    let w = c.next_line-step in record {
      within = c.requires.within;
      i_in_bounds = λ e. omega (
        arith,
        e,
        c.requires.parents_len,
        with-line b.strict a.text.now b.at l.area l.ids l.c l.invariant.0 _ _ w.result.next w.ensures.next w.ensures.line w.result.end w.result.refusal (turned (goal.at.step_fault-n-requires c).After-next_line-step) (links_in a.parents.now),
        programs-within b.strict a.text.now b.at _ _ w.result.next w.ensures.next,
      );
    }

pub loop-c-smaller-then-n-eq0 : goal.loop-c-smaller-then-n-eq0
loop-c-smaller-then-n-eq0 c = omega (arith, c.loop-c-test.true, (turned (goal.at.loop-c-smaller-then-n-eq0 c).After-next_line-step).onward, c.next_line-step.ensures.at)

pub loop-c-preserved-then-n-eq0 : goal.loop-c-preserved-then-n-eq0
loop-c-preserved-then-n-eq0 c =
    let l = c.loop-c in
    let w = c.next_line-step in
    let e = come (goal.at.loop-c-preserved-then-n-eq0 c).After-step_fault-n ∙ row-none _ _ l.row l.table c.step_fault-n.result c.if-n-eq0.true in (
      w.ensures.next,
      omega (arith, l.invariant.1, ap length e),
      ap (over l.table (l.row * 2)) (sym e) ∙ l.invariant.2,
      omega (arith, l.invariant.3, w.ensures.line),
      w.ensures.room ∙ l.invariant.4,
      w.ensures.room2 ∙ l.invariant.5,
      l.invariant.6,
    )

pub put_row-requires : goal.put_row-requires
put_row-requires c =
    let l = c.loop-c in
    omega (arith, l.invariant.1, ap length (come (goal.at.put_row-requires c).After-step_fault-n ∙ row_one _ _ l.row l.table c.step_fault-n.result c.if-n-eq0.false))

pub overflow_add-row : goal.overflow_add-row
overflow_add-row c = omega (arith, small (goal.at.overflow_add-row c).At-loop-c, c.loop-c.invariant.3)

pub loop-c-smaller : goal.loop-c-smaller
loop-c-smaller c = omega (arith, c.loop-c-test.true, (turned (goal.at.loop-c-smaller c).After-next_line-step).onward, c.next_line-step.ensures.at)

pub loop-c-preserved : goal.loop-c-preserved
loop-c-preserved c =
    let l = c.loop-c in
    let w = c.next_line-step in
    let a = c.args in
    let p = c.put_row in
    let e = come (goal.at.loop-c-preserved c).After-step_fault-n in
    let n = c.step_fault-n.result in
    let h = c.if-n-eq0.false in
    let room = c.loop-c.invariant.1 in (
      w.ensures.next,
      omega (arith, room, ap length (e ∙ row_one _ _ l.row l.table n h), p.auto.table),
      ap (λ o. over o ((l.row + 1) * 2) (to_come a.text.now a.b a.parents.now w.result.next)) p.ensures ∙ row-over _ _ l.row l.table n h (omega (arith, room, ap length e)) ∙ ap (over l.table (l.row * 2)) (sym e) ∙ l.invariant.2,
      omega (arith, l.invariant.3, w.ensures.line),
      w.ensures.room ∙ l.invariant.4,
      w.ensures.room2 ∙ l.invariant.5,
      p.auto.table ∙ l.invariant.6,
    )

pub shape_of-area : goal.shape_of-area
shape_of-area c = c.loop-c.invariant.4

pub shape_of-ids : goal.shape_of-ids
shape_of-ids c = c.loop-c.invariant.5

pub shape_of-table : goal.shape_of-table
shape_of-table c = c.loop-c.invariant.6

pub returns : goal.returns
unfolding rows faults_from
returns c =
    let l = c.loop-c in
    let a = c.args in
    let b = c.args.b in
    let e = none_left b.strict a.text.now b.at l.area l.ids l.c l.invariant.0 c.loop-c-test.false in
    sym (over_none l.table (l.row * 2)) ∙ ap (λ ls. over l.table (l.row * 2) (rows (faults_from (links_in a.parents.now) (b.line + l.c.line) l.c.programs ls))) (sym e) ∙ l.invariant.2
