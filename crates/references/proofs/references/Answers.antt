-- `references::references` meets its contract: reading, 21, 20, then the rows.
use Prim.Native.Nat.{ℕ, ◌*◌, ◌≤◌}
use mathlib.Core.Path.{ap, ◌∙◌}
use mathlib.Core.List.{List}
use native.Mathlib.Omega.{arith}
use lib.ListN.{length}
use Rattle.std.proofs.lemmas.Result.{err_from_is_err_and}
use Rattle.format.specs.Calls.{Answer}
use Rattle.format.specs.Reading.{of_kind}
use Rattle.byte_slices.specs.Over.{over}
use Rattle.accepted.specs.Read.{records_of}
use Rattle.catalogue_entries.specs.Entries.{entries_in, counted}
use Rattle.read.proofs.Fresh.{Current, refused-by, fresh-by}
use Rattle.format.specs.Referencing.{rows, referencing}
use Rattle.references.proofs.OwnCatalogue.{rows-refused, rows_are, count-is, few, rows_fit, rows_short, rows_all, told-refusal, told-answer}
use Rattle.references.proofs.references.Goals as goal
use Rattle.references.proofs.references.Goals.{Else-table-count, In_ok-check, Start}

-- ---- once the check passed

abbrev answer : Start → Answer (List ℕ × ℕ)
answer s = referencing s.args.text.now s.args.catalogue.now (length s.args.table.now)

-- the catalogue is the text's own
own : (z : In_ok-check) → Current z.args.text.now z.args.catalogue.now
own z = fresh-by z.args.text.now z.args.catalogue.now z.check.ensures z.in_ok-check.was

pub overflow_mul-count : goal.overflow_mul-count
overflow_mul-count c = omega (arith, c.count-count.ensures, few c.args.text.now c.args.catalogue.now (own (goal.at.overflow_mul-count c).In_ok-check))

pub returns-then-table-count : goal.returns-then-table-count
returns-then-table-count c =
    let a = c.args in
    let told = told-refusal (answer (goal.at.returns-then-table-count c).Start) a.table.now (record { number = 20; line = record { 0 = 0 } })
    (rows_short a.text.now a.catalogue.now (own (goal.at.returns-then-table-count c).In_ok-check) (length a.table.now) (omega (arith, c.if-table-count.true, c.count-count.ensures))) in
    record { answer = rw c.of_text.ensures told.0; wrote = told.1 }

-- the table has room
space : (c : Else-table-count) → let a = c.args in 3 * counted 2 (entries_in a.catalogue.now) ≤ length a.table.now
space c = omega (arith, c.if-table-count.false, c.count-count.ensures)

pub put_rows-requires : goal.put_rows-requires
put_rows-requires c =
    let a = c.args in
    rows_fit a.text.now a.catalogue.now (own (goal.at.put_rows-requires c).In_ok-check) (length a.table.now) (space (goal.at.put_rows-requires c).Else-table-count)

pub returns-in_err-check : goal.returns-in_err-check
returns-in_err-check c =
    let a = c.args in
    let r = c.in_err-check.field-0.0 in
    let p = err_from_is_err_and c.from_residual.result c.from_residual.ensures.1 in
    let told = told-refusal (answer (goal.at.returns-in_err-check c).Start) a.table.now r
    (rows-refused a.text.now a.catalogue.now (length a.table.now) r.number r.line.0 (refused-by a.text.now a.catalogue.now c.check.ensures r c.in_err-check.was)) in
    record { answer = rw (p.1, p.2) told.0; wrote = told.1 }

pub returns : goal.returns
returns c =
    let p = (goal.at.returns c).In_ok-check in
    let a = c.args in
    let sq = of_kind 2 (records_of a.text.now) in
    let told = told-answer (answer (goal.at.returns c).Start) a.table.now (rows sq) (length sq) (rows_all a.text.now a.catalogue.now (own p) (length a.table.now) (space (goal.at.returns c).Else-table-count))
    c.count-count.result (c.count-count.ensures ∙ count-is a.text.now a.catalogue.now (own p))
    c.put_rows.new.table (c.put_rows.ensures ∙ ap (over a.table.now 0) (rows_are a.text.now a.catalogue.now (own p))) in
    record { answer = told.0; wrote = told.1 }
