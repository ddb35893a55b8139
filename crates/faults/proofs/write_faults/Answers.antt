-- `faults::write_faults` meets its contract: the rows before the first line that is kept, then all from there on.
use Prim.Native.Nat.{◌+◌, ◌*◌, ◌/◌, ◌≤◌}
use mathlib.Core.Path.{◌≡◌, sym, ap, ap₂, ◌∙◌}
use native.Mathlib.Omega.{arith}
use lib.ListN.{length, length-append}
use Rattle.format.proofs.Slots.{held_none}
use Rattle.byte_slices.specs.Over.{over}
use Rattle.byte_slices.proofs.Over.{over-over}
use Rattle.key_look.specs.Seed.{plain_seed}
use Rattle.key_index.specs.KeySlots.{start}
use Rattle.format.specs.Carrying.{carried_lines, rows}
use Rattle.carry_early.specs.Early.{early_of, rows_from}
use Rattle.carry_passes.proofs.Split.{early-rows}
use Rattle.format.specs.Faults.{faults_in, faulting}
use Rattle.faults.proofs.AnswerCases.{told-short, told-fits, refused_all, written_all, counts-small, left, all-rows, few, inside, count-length, front_length, within, left_is, all-count}
use Rattle.faults.proofs.write_faults.Goals as goal
use Rattle.faults.proofs.write_faults.Goals.{After-count_links, Else-table-lines}

pub slice_bounds-parents-end : goal.slice_bounds-parents-end
slice_bounds-parents-end c = let a = c.args in inside a.text.now a.b c.requires.first a.links c.requires.links

pub slice_bounds-count_links-end : goal.slice_bounds-count_links-end
slice_bounds-count_links-end c = let a = c.args in count-length a.text.now a.b c.requires.first a.links c.requires.links

pub count_links-requires : goal.count_links-requires
count_links-requires c =
    let a = c.args in
    let f = c.requires.first in record {
      within = within a.text.now a.b f a.links c.requires.links;
      parents_len_bound = omega (arith, front_length a.text.now a.b f a.links c.requires.links, few a.text.now a.b f);
    }

-- line numbers are small
small : (c : After-count_links)
    → (let a = c.args in (a.links.plain ≤ 16777216) × ((c.count_links.result ≤ 1024) × (a.b.line ≤ 16777216)))
small c =
    let a = c.args in
    let f = c.requires.first in
    counts-small a.text.now a.b a.links f c.requires.links c.requires.text_len_bound c.count_links.result _ _ c.count_links.ensures
    (omega (arith, front_length a.text.now a.b f a.links c.requires.links, few a.text.now a.b f))

-- two numbers per faulty line
counted : (c : After-count_links)
    → (let a = c.args in length (rows (faults_in (carried_lines a.text.now))) ≡ (a.b.line + (a.links.plain + c.count_links.result)) * 2)
counted c =
    let a = c.args in
    all-count a.text.now a.b c.requires.first a.links c.requires.links c.count_links.result c.count_links.ensures

pub overflow_add-lines : goal.overflow_add-lines
overflow_add-lines c = omega (arith, small (goal.at.overflow_add-lines c).After-count_links)

pub overflow_add-lines-2 : goal.overflow_add-lines-2
overflow_add-lines-2 c = omega (arith, small (goal.at.overflow_add-lines-2 c).After-count_links)

pub overflow_mul-lines : goal.overflow_mul-lines
overflow_mul-lines c = omega (arith, small (goal.at.overflow_mul-lines c).After-count_links)

pub returns-then-table-lines : goal.returns-then-table-lines
returns-then-table-lines c =
    let a = c.args in
    let t = c.args.text.now in
    let told = refused_all (faulting t (length a.table.now)) a.table.now (record { number = 20; line = record { 0 = 0 } }) (told-short t (length a.table.now) c.requires.text_len_bound (omega (arith, counted (goal.at.returns-then-table-lines c).After-count_links, c.if-table-lines.true))) in
    record { answer = rw c.of_text.ensures told.0; listed = told.1 }

pub put_early-requires : goal.put_early-requires
put_early-requires c = record {
  text_len_bound = c.requires.text_len_bound;
  count_value = c.requires.first.line;
  count_in_bounds = omega (arith, c.if-table-lines.false);
}

pub slice_bounds-parents-end-2 : goal.slice_bounds-parents-end-2
slice_bounds-parents-end-2 c = let a = c.args in inside a.text.now a.b c.requires.first a.links c.requires.links

pub slice_bounds-put_lines-end-2 : goal.slice_bounds-put_lines-end-2
slice_bounds-put_lines-end-2 c = let a = c.args in count-length a.text.now a.b c.requires.first a.links c.requires.links

-- there is room for the rows from the first line that is kept on
room : (c : Else-table-lines) → (let a = c.args in a.b.line * 2 + length (left a.text.now a.b c.requires.first) ≤ length a.table.now)
room c =
    let a = c.args in
    let t = c.args.text.now in
    let f = c.requires.first in
    omega (arith, counted (goal.at.Else-table-lines c).After-count_links, c.if-table-lines.false, ap length (all-rows t a.b f), length-append (rows_from 0 (early_of t).refusals) (left t a.b f), early-rows t a.b f)

pub put_lines-requires : goal.put_lines-requires
put_lines-requires c =
    let a = c.args in
    let t = c.args.text.now in
    let f = c.requires.first in
    let k = c.requires.links in record {
      text_len_bound = c.requires.text_len_bound;
      first = f;
      fresh = record { some = c.requires.in_bounds; room = omega arith; held = held_none (start plain_seed t 2048) 2048 };
      within = within t a.b f a.links k;
      parents_len = front_length t a.b f a.links k;
      b_in_bounds = omega (arith, room (goal.at.put_lines-requires c).Else-table-lines, ap length (left_is t a.b f a.links k), c.put_early.auto.table);
    }

pub returns : goal.returns
returns c =
    let a = c.args in
    let t = c.args.text.now in
    let b = c.args.b in
    let f = c.requires.first in
    let k = c.requires.links in
    let n = counted (goal.at.returns c).After-count_links in
    let early = rows_from 0 (early_of t).refusals in
    let half : b.line + (a.links.plain + c.count_links.result) ≡ length (rows (faults_in (carried_lines t))) / 2 = omega (arith, n) in
    let told = written_all (faulting t (length a.table.now)) a.table.now (rows (faults_in (carried_lines t))) _ _
    (told-fits t (length a.table.now) c.requires.text_len_bound (omega (arith, n, c.if-table-lines.false))) half
    (c.put_lines.ensures
    ∙ ap₂ (λ o xs. over o (b.line * 2) xs) c.put_early.ensures (left_is t b f a.links k)
    ∙ ap (λ m. over (over a.table.now 0 early) m (left t b f)) (let z : b.line * 2 ≡ 0 + length early = omega (arith, early-rows t b f) in z)
    ∙ over-over a.table.now 0 early (left t b f) (omega (arith, room (goal.at.returns c).Else-table-lines, early-rows t b f))
    ∙ ap (over a.table.now 0) (sym (all-rows t b f))) in
    record { answer = told.0; listed = told.1 }
