-- `carry_on::write_kept` meets its contract: 1, then 20 and 20, then all is written.
use Prim.Native.Nat.{ℕ, ◌+◌, ◌*◌, ◌/◌, ◌≤◌}
use mathlib.Core.Path.{◌≡◌, sym, ap, ◌∙◌}
use mathlib.Core.List.{List}
use native.Mathlib.Omega.{arith}
use lib.ListN.{length, length-append}
use Rattle.format.specs.Tidy.{tidy}
use Rattle.format.specs.Calls.{yes, writing}
use Rattle.tidy_sizes.specs.Numbers.{total, front, kind_starts}
use Rattle.tidy_text.proofs.Sizes.{total_size}
use Rattle.tidy_sizes.proofs.Plan.{unfit-not, write-unfit, write-fits}
use Rattle.format.specs.Carrying.{kept_of, carried_lines, skips, rows, unwritable_line, carrying}
use Rattle.carry_early.specs.Early.{early_of, rows_from}
use Rattle.carry_passes.specs.From.{kept_from, rows_of}
use Rattle.carry_passes.proofs.Split.{first-kept, first_small, first_count, skips-few, first_rows, early-rows}
use Rattle.carry_on.proofs.AnswerCases.{told-refused, told-short, told-fits, refused_all, written_all}
use Rattle.carry_on.proofs.write_kept.Goals as goal
use Rattle.carry_on.proofs.write_kept.Goals.{After-fit-unfit, Else-unfit-ne0, Start}

-- the tidy text of what is kept
abbrev kept : List ℕ → List ℕ
kept t = tidy (kept_of (carried_lines t))

-- the sum of the sizes is its length, at most one byte more than the text's
sum : (c : Start) → (let a = c.args in (total a.sizes ≡ length (kept a.text.now)) × (length (kept a.text.now) ≤ 16777217))
sum c =
    let a = c.args in
    let f = c.requires.first in
    let e = ap (λ rs. length (tidy rs)) (first-kept a.text.now a.b f) in (
      ap total c.requires.sizes_value ∙ total_size (kept_from a.text.now a.b) ∙ sym e,
      omega (arith, e, first_small a.text.now a.b f, c.requires.text_len_bound),
    )

-- how many lines are skipped
count : (c : Start)
    → (let a = c.args in (length (rows (skips 0 (carried_lines a.text.now))) ≡ (a.b.line + a.skipped) * 2) × (a.b.line + a.skipped ≤ 33554432))
count c =
    let a = c.args in
    let f = c.requires.first in
    let e = c.requires.skipped_value in (
      omega (arith, first_count a.text.now a.b f, e),
      omega (arith, e, skips-few a.text.now a.b f, f.slow, f.inside, c.requires.text_len_bound),
    )

-- the plan is about that length
size : (f : After-fit-unfit) → length (kept f.args.text.now) ≡ f.total-n.result + 0
size f = omega (arith, sum (goal.at.After-fit-unfit f).Start, f.total-n.ensures)

-- it fits
roomy : (e : Else-unfit-ne0) → let a = e.args in length (kept a.text.now) ≤ length a.out.now
roomy e =
    let fits = unfit-not (e.total-n.result + 0) 0 (length e.args.out.now) e.fit-unfit.result e.fit-unfit.ensures e.if-unfit-ne0.false in
    omega (arith, size (goal.at.Else-unfit-ne0 e).After-fit-unfit, fits.1)

written : (e : Else-unfit-ne0)
    → let a = e.args in
    let t = e.args.text.now in
    writing (length a.out.now) (unwritable_line 0 (carried_lines t)) (kept t) ≡ yes (kept t)
written e =
    let t = e.args.text.now in
    write-fits (length e.args.out.now) (unwritable_line 0 (carried_lines t)) (kept t) e.requires.text_value (e.total-n.result + 0) e.fit-unfit.result (size (goal.at.Else-unfit-ne0 e).After-fit-unfit) e.fit-unfit.ensures e.if-unfit-ne0.false

pub total-n-requires : goal.total-n-requires
total-n-requires c = omega (arith, sum (goal.at.total-n-requires c).Start)

pub returns-then-unfit-ne0 : goal.returns-then-unfit-ne0
returns-then-unfit-ne0 c =
    let a = c.args in
    let t = c.args.text.now in
    let told = refused_all (carrying t (length a.out.now) (length a.table.now)) a.out.now a.table.now (record { number = c.fit-unfit.result; line = record { 0 = 0 } })
    (told-refused t (length a.out.now) (length a.table.now) c.requires.text_len_bound c.fit-unfit.result 0
    (write-unfit (length a.out.now) (unwritable_line 0 (carried_lines t)) (kept t) c.requires.text_value _ c.fit-unfit.result (size (goal.at.returns-then-unfit-ne0 c).After-fit-unfit) c.fit-unfit.ensures c.if-unfit-ne0.true)) in
    record { answer = rw c.of_text.ensures told.0; wrote = told.1.0; listed = told.1.1 }

pub overflow_add-lines : goal.overflow_add-lines
overflow_add-lines c = omega (arith, count (goal.at.overflow_add-lines c).Start)

pub overflow_mul-lines : goal.overflow_mul-lines
overflow_mul-lines c = omega (arith, count (goal.at.overflow_mul-lines c).Start)

pub returns-then-table-lines : goal.returns-then-table-lines
returns-then-table-lines c =
    let a = c.args in
    let t = c.args.text.now in
    let told = refused_all (carrying t (length a.out.now) (length a.table.now)) a.out.now a.table.now (record { number = 20; line = record { 0 = 0 } })
    (told-short t (length a.out.now) (length a.table.now) c.requires.text_len_bound (kept t) (written (goal.at.returns-then-table-lines c).Else-unfit-ne0)
    (omega (arith, count (goal.at.returns-then-table-lines c).Start, c.if-table-lines.true))) in
    record { answer = rw c.of_text-then-table-lines.ensures told.0; wrote = told.1.0; listed = told.1.1 }

pub starts-requires : goal.starts-requires
unfolding total front
starts-requires c = omega (arith, sum (goal.at.starts-requires c).Start)

pub put_kept_and_table-requires : goal.put_kept_and_table-requires
put_kept_and_table-requires c =
    let a = c.args in
    let f = c.requires.first in record {
      text_len_bound = c.requires.text_len_bound;
      first = f;
      in_bounds = c.requires.in_bounds;
      places_value = c.starts.ensures ∙ ap (kind_starts 0) c.requires.sizes_value;
      b_in_bounds = omega (arith, roomy (goal.at.put_kept_and_table-requires c).Else-unfit-ne0, ap (λ rs. length (tidy rs)) (first-kept a.text.now a.b f));
      b_in_bounds_2 = omega (arith, count (goal.at.put_kept_and_table-requires c).Start, c.if-table-lines.false, ap length (first_rows a.text.now a.b f), length-append (rows_from 0 (early_of a.text.now).refusals) (rows_of a.text.now a.b), early-rows a.text.now a.b f);
    }

pub returns : goal.returns
returns c =
    let a = c.args in
    let t = c.args.text.now in
    let half : a.b.line + a.skipped ≡ length (rows (skips 0 (carried_lines t))) / 2 = omega (arith, count (goal.at.returns c).Start) in
    let told = written_all (carrying t (length a.out.now) (length a.table.now)) a.out.now a.table.now (kept t) (rows (skips 0 (carried_lines t))) _ _ _ _
    (told-fits t (length a.out.now) (length a.table.now) c.requires.text_len_bound (kept t) (written (goal.at.returns c).Else-unfit-ne0) (omega (arith, count (goal.at.returns c).Start, c.if-table-lines.false)))
    (omega (arith, size (goal.at.returns c).After-fit-unfit)) half c.put_kept_and_table.ensures.wrote c.put_kept_and_table.ensures.listed in
    record { answer = told.0; wrote = told.1.0; listed = told.1.1 }
