-- `carry_passes::writing::put_lines` meets its contract: what is written, and what the lines still to come will write, is all.
use Prim.Native.Nat.{◌+◌, ◌-◌, ◌*◌}
use mathlib.Core.Path.{◌≡◌, refl, sym, ap, ap₂, subst, ◌∙◌}
use native.Mathlib.Omega.{arith}
use lib.ListN.{length}
use Rattle.byte_slices.specs.Over.{over}
use Rattle.byte_slices.proofs.Over.{over_none}
use Rattle.tidy_text.specs.Placed.{with_parts, parts, Apart}
use Rattle.tidy_text.proofs.Parts.{placed-none}
use Rattle.format.specs.Carrying.{kept_of, skips, rows}
use Rattle.carry_passes.specs.From.{kept_from, rows_of}
use Rattle.carry_passes.specs.NextLine.{Turn}
use Rattle.carry_passes.proofs.Begun.{begun}
use Rattle.carry_passes.proofs.NextLine.{turn, kept_next, none_left}
use Rattle.carry_passes.specs.Steps.{rows_before, places_after}
use Rattle.carry_passes.proofs.writing.Steps.{out-more, out-fits, row_fits, table_more, table_same, skipped, kept-one}
use Rattle.carry_passes.proofs.writing.put_lines.Invariants.{ahead, to_come}
use Rattle.carry_passes.proofs.writing.put_lines.Goals as goal
use Rattle.carry_passes.proofs.writing.put_lines.Goals.{After-next_line-step}

-- the line of a step
turned : (c : After-next_line-step)
    → (let a = c.args in
    Turn a.b.strict a.text.now a.b.at c.loop-c.c c.next_line-step.result.end c.next_line-step.result.refusal)
turned c =
    let l = c.loop-c in
    let a = c.args in
    turn a.b.strict a.text.now a.b.at l.area l.ids l.c l.invariant.0 c.loop-c-test.true c.next_line-step.result.end c.next_line-step.result.refusal
    c.next_line-step.ensures.end c.next_line-step.ensures.refusal

-- one more row, or none
counted : (c : After-next_line-step)
    → (let l = c.loop-c in let b = c.args.b in rows_before b c.next_line-step.result.next ≡ rows_before b l.c + skipped c.next_line-step.result.refusal)
counted c =
    let l = c.loop-c in
    let a = c.args in
    let u = turned c in
    let w = c.next_line-step in
    omega (
      arith,
      w.ensures.line,
      u.few,
      kept_next a.b.strict a.text.now a.b.at l.area l.ids l.c l.invariant.0 u.judged u.more _ _ w.result.next w.ensures.next w.ensures.line,
      kept-one a.b.strict a.text.now a.b.at l.c w.result.end w.result.refusal u,
    )

pub loop-c-init : goal.loop-c-init
unfolding kept_from rows_of
loop-c-init c =
    let a = c.args in
    let b = c.args.b in
    let zero : b.line + 0 ≡ b.line = omega arith in
    let same : rows (skips (b.line + 0) (ahead a.text.now b 0)) ≡ rows_of a.text.now b = ap (λ k. rows (skips k (ahead a.text.now b 0))) zero in
    let from : (b.line + 0) * 2 ≡ b.line * 2 = omega arith in (
      begun a.text.now b _ a.area.now a.ids.now c.requires.first c.requires.fresh,
      c.requires.apart,
      refl,
      omega (arith, c.requires.b_in_bounds, ap length same),
      ap₂ (over a.table.now) from same,
      refl,
      refl,
      refl,
      refl,
    )

pub next_line-step-requires : goal.next_line-step-requires
next_line-step-requires c = record {
  text_len_bound = c.requires.text_len_bound;
  going = c.loop-c.invariant.0;
  at_in_bounds = c.loop-c-test.true;
}

pub put_step-next-requires : goal.put_step-next-requires
put_step-next-requires c =
    let l = c.loop-c in
    let a = c.args in
    let b = c.args.b in
    let r = c.next_line-step.result in
    let u = turned (goal.at.put_step-next-requires c).After-next_line-step in record {
      text_len_bound = c.requires.text_len_bound;
      first = c.requires.first;
      turn = u;
      room_for = record {
        text = λ z. out-fits b.strict a.text.now b.at l.c r.end r.refusal u z l.out (length l.out) l.next (omega arith) l.invariant.1;
        row = λ z. row_fits b.strict a.text.now b.at l.c r.end r.refusal u z (b.line + l.c.line) (rows_before b l.c) l.table l.invariant.3;
      };
    }

pub loop-c-smaller : goal.loop-c-smaller
loop-c-smaller c = omega (arith, c.loop-c-test.true, (turned (goal.at.loop-c-smaller c).After-next_line-step).onward, c.next_line-step.ensures.at)

pub loop-c-preserved : goal.loop-c-preserved
loop-c-preserved c =
    let a = c.args in
    let b = c.args.b in
    let t = c.args.text.now in
    let l = c.loop-c in
    let w = c.next_line-step in
    let p = c.put_step-next in
    let wrote = c.put_step-next.new.out in
    let listed = c.put_step-next.new.table in
    let n = c.next_line-step.result.refusal in
    let u = turned (goal.at.loop-c-preserved c).After-next_line-step in
    let on = c.next_line-step.ensures.line in
    let k = b.line + l.c.line in
    let k-on : k + 1 ≡ b.line + (l.c.line + 1) = omega arith in
    let come : to_come t b w.result.next.line ≡ rows (skips (k + 1) (ahead t b (l.c.line + 1))) = ap (to_come t b) on ∙ ap (λ m. rows (skips m (ahead t b (l.c.line + 1)))) (sym k-on) in
    let rows_on = counted (goal.at.loop-c-preserved c).After-next_line-step in
    let o = out-more b.strict t b.at l.c w.result.end n u l.out (length l.out) l.next (omega arith) l.invariant.1 in (
      w.ensures.next,
      subst (λ q. Apart (parts q (kept_of (ahead t b w.result.next.line))) (length (wrote))) (sym p.ensures.next)
          (subst (λ m. Apart (parts (places_after t b l.c w.result l.next) (kept_of (ahead t b m))) (length (wrote))) (sym on) (subst (Apart _) (sym p.auto.out) o.0)),
      ap (λ m. with_parts (wrote) (parts p.result (kept_of (ahead t b m)))) on
          ∙ ap₂ (λ o q. with_parts o (parts q (kept_of (ahead t b (l.c.line + 1))))) p.ensures.wrote p.ensures.next
          ∙ o.1
          ∙ l.invariant.2,
      omega (arith, rows_on, ap length come, p.auto.table, table_more b.strict t b.at l.c w.result.end n u k (rows_before b l.c) l.table l.invariant.3),
      ap₂ (over (listed)) (ap (λ r. r * 2) rows_on) come
          ∙ ap (λ o. over o ((rows_before b l.c + skipped n) * 2) (rows (skips (k + 1) (ahead t b (l.c.line + 1))))) p.ensures.listed
          ∙ table_same b.strict t b.at l.c w.result.end n u k (rows_before b l.c) l.table l.invariant.3
          ∙ l.invariant.4,
      w.ensures.room ∙ l.invariant.5,
      w.ensures.room2 ∙ l.invariant.6,
      p.auto.out ∙ l.invariant.7,
      p.auto.table ∙ l.invariant.8,
    )

pub shape_of-area : goal.shape_of-area
shape_of-area c = c.loop-c.invariant.5

pub shape_of-ids : goal.shape_of-ids
shape_of-ids c = c.loop-c.invariant.6

pub shape_of-out : goal.shape_of-out
shape_of-out c = c.loop-c.invariant.7

pub shape_of-table : goal.shape_of-table
shape_of-table c = c.loop-c.invariant.8

pub returns : goal.returns
unfolding kept_of rows skips
returns c =
    let a = c.args in
    let b = c.args.b in
    let l = c.loop-c in
    let e = none_left b.strict a.text.now b.at l.area l.ids l.c l.invariant.0 c.loop-c-test.false in record {
      wrote = sym (placed-none l.out l.next) ∙ ap (λ ls. with_parts l.out (parts l.next (kept_of ls))) (sym e) ∙ l.invariant.2;
      listed = sym (over_none l.table (rows_before b l.c * 2)) ∙ ap (λ ls. over l.table (rows_before b l.c * 2) (rows (skips (b.line + l.c.line) ls))) (sym e) ∙ l.invariant.4;
    }
