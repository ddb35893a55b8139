-- `carry_passes::writing::put_step` meets its contract: a record is written, or a row.
use Prim.Native.Nat.{◌+◌, ◌≤◌, ◌<◌}
use mathlib.Core.Path.{◌≡◌, sym, ◌∙◌}
use native.Mathlib.Omega.{arith}
use Rattle.carry_passes.proofs.Steps.{turn-read}
use Rattle.carry_passes.specs.Steps.{rows_before}
use Rattle.carry_passes.proofs.writing.Steps.{places-kept, places-skipped, out-kept, out-skipped, table_kept, table-skipped}
use Rattle.carry_passes.proofs.writing.put_step.Goals as goal
use Rattle.carry_passes.proofs.writing.put_step.Goals.{Start}

-- line numbers are small
small : (s : Start) → (s.args.c.line ≤ 16777216) × (s.args.b.line ≤ 16777216)
small s =
    let f = s.requires.first in
    let u = s.requires.turn in
    (omega (arith, u.slow, u.start, u.inside, s.requires.text_len_bound), omega (arith, f.slow, f.inside, s.requires.text_len_bound))

pub overflow_sub-row : goal.overflow_sub-row
overflow_sub-row c = c.requires.turn.few

pub overflow_add-row : goal.overflow_add-row
overflow_add-row c = omega (arith, small (goal.at.overflow_add-row c).Start)

pub overflow_cast-c : goal.overflow_cast-c
overflow_cast-c c = omega (arith, small (goal.at.overflow_cast-c c).Start)

pub overflow_add-b : goal.overflow_add-b
overflow_add-b c = omega (arith, small (goal.at.overflow_add-b c).Start)

pub put_row-requires : goal.put_row-requires
put_row-requires c =
    let z : 0 < c.args.step.refusal = omega (arith, c.if-n-ne0.true) in
    c.requires.room_for.row z

pub returns-then-n-ne0 : goal.returns-then-n-ne0
returns-then-n-ne0 c =
    let a = c.args in
    let n = c.args.step.refusal in
    let z = c.if-n-ne0.true in record {
      next = sym (places-skipped n _ _ a.places z);
      wrote = sym (out-skipped n _ _ a.places a.out.now z);
      listed = c.put_row.ensures ∙ sym (table-skipped n (rows_before a.b a.c) (a.b.line + a.c.line) a.table.now z);
    }

pub slice_bounds-put_at_kind-count : goal.slice_bounds-put_at_kind-count
slice_bounds-put_at_kind-count c = c.requires.turn.start

pub slice_bounds-put_at_kind-start : goal.slice_bounds-put_at_kind-start
slice_bounds-put_at_kind-start c = c.requires.turn.start

pub slice_bounds-put_at_kind-end : goal.slice_bounds-put_at_kind-end
slice_bounds-put_at_kind-end c = c.requires.turn.inside

pub put_at_kind-requires : goal.put_at_kind-requires
put_at_kind-requires c =
    let a = c.args in
    let u = c.requires.turn in
    let z : a.step.refusal ≡ 0 = omega (arith, c.if-n-ne0.false) in record {
      src_value = turn-read a.b.strict a.text.now a.b.at a.c a.step.end a.step.refusal u z;
      src_bound = omega (arith, u.size, u.inside, c.requires.text_len_bound);
      src_in_bounds = c.requires.room_for.text z;
    }

pub returns : goal.returns
returns c =
    let a = c.args in
    let n = c.args.step.refusal in
    let z : n ≡ 0 = omega (arith, c.if-n-ne0.false) in
    let w = c.put_at_kind.ensures in record {
      next = w.next ∙ sym (places-kept n _ _ a.places z);
      wrote = w.wrote ∙ sym (out-kept n _ _ a.places a.out.now z);
      listed = sym (table_kept n (rows_before a.b a.c) (a.b.line + a.c.line) a.table.now z);
    }
