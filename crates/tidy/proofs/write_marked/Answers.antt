-- `tidy::write_marked` meets its contract: the text of what stays is measured, then written.
use Prim.Native.Nat.{ℕ, ◌+◌}
use mathlib.Core.Path.{◌≡◌, sym, ap, ◌∙◌}
use mathlib.Core.List.{List}
use mathlib.Core.Option.{none}
use native.Mathlib.Omega.{arith}
use lib.ListN.{length}
use Rattle.format.specs.Records.{Record}
use Rattle.format.specs.Tidy.{tidy, unwritable}
use Rattle.format.specs.Calls.{Answer, writing}
use Rattle.accepted.specs.Read.{records_of}
use Rattle.tidy_sizes.specs.Numbers.{total}
use Rattle.tidy_text.specs.Sizes.{sizes_of}
use Rattle.tidy_text.proofs.Lines.{opened}
use Rattle.tidy_text.proofs.Total.{tidy-small}
use Rattle.tidy_text.proofs.Sizes.{total_size}
use Rattle.read.proofs.AnswerCases.{refused-answer, written-answer}
use Rattle.tidy_sizes.proofs.Plan.{unfit-not, write-bad, write-unfit, write-fits}
use Rattle.tidy.proofs.Writing.{measured-bad, measured-is}
use Rattle.tidy_text.specs.Sifted.{is_marked, sifted}
use Rattle.tidy_text.proofs.Sifting.{sifted-small}
use Rattle.tidy.proofs.write_marked.Goals as goal
use Rattle.tidy.proofs.write_marked.Goals.{After-total-n, In-Ok, Start}

-- all records, and those that stay
abbrev all : Start → List Record
all s = records_of s.args.text.now

abbrev stay : Start → List Record
stay s = sifted (is_marked s.args.marks.now) 0 (all s)

abbrev asked : Start → Answer (List ℕ)
asked s = writing (length s.args.out.now) (unwritable 0 (all s)) (tidy (stay s))

-- every name can be written, and the sizes are those of the text
measured : (c : In-Ok) → ((unwritable 0 (all (goal.at.In-Ok c).Start) ≡ none) × (sizes_of (stay (goal.at.In-Ok c).Start) ≡ c.in-Ok.sizes))
measured c =
    measured-is (unwritable 0 (all (goal.at.In-Ok c).Start)) (sizes_of (stay (goal.at.In-Ok c).Start)) c.in-Ok.sizes (sym c.measure_marked.ensures.is ∙ c.in-Ok.is)

-- how many bytes it has
sum : (c : In-Ok) → total c.in-Ok.sizes ≡ length (tidy (stay (goal.at.In-Ok c).Start))
sum c = ap total (sym (measured c).1) ∙ total_size (stay (goal.at.In-Ok c).Start)

counted : (c : After-total-n) → length (tidy (stay (goal.at.After-total-n c).Start)) ≡ c.total-n.result
counted c = sym (c.total-n.ensures ∙ sum (goal.at.After-total-n c).In-Ok)

pub total-n-requires : goal.total-n-requires
total-n-requires c =
    let a = c.args in
    omega (arith, sum c, sifted-small (is_marked a.marks.now) 0 (all (goal.at.total-n-requires c).Start), (tidy-small a.strict a.text.now (opened a.strict a.text.now c.requires.text_value c.requires.reads_by)).1)

pub returns-then-unfit-ne0 : goal.returns-then-unfit-ne0
returns-then-unfit-ne0 c =
    let told = refused-answer (asked (goal.at.returns-then-unfit-ne0 c).Start) c.args.out.now (record { number = c.fit-unfit.result; line = record { 0 = 0 } })
    (write-unfit (length c.args.out.now) (unwritable 0 (all (goal.at.returns-then-unfit-ne0 c).Start)) (tidy (stay (goal.at.returns-then-unfit-ne0 c).Start)) (measured (goal.at.returns-then-unfit-ne0 c).In-Ok).0 (c.total-n.result + 0) c.fit-unfit.result (omega (arith, counted (goal.at.returns-then-unfit-ne0 c).After-total-n)) c.fit-unfit.ensures c.if-unfit-ne0.true) in
    record { answer = rw c.of_text.ensures told.0; wrote = told.1 }

pub put_marked-n-requires : goal.put_marked-n-requires
put_marked-n-requires c =
    let fits = unfit-not (c.total-n.result + 0) 0 (length c.args.out.now) c.fit-unfit.result c.fit-unfit.ensures c.if-unfit-ne0.false in record {
      text_value = c.requires.text_value;
      reads_by = c.requires.reads_by;
      sizes_value = sym (measured (goal.at.put_marked-n-requires c).In-Ok).1;
      text_in_bounds = omega (arith, counted (goal.at.put_marked-n-requires c).After-total-n, fits.1);
    }

pub returns-in-Err : goal.returns-in-Err
returns-in-Err c =
    let l = c.in-Err.line in
    let told = refused-answer (asked (goal.at.returns-in-Err c).Start) c.args.out.now (record { number = 24; line = l })
    (write-bad (length c.args.out.now) (unwritable 0 (all (goal.at.returns-in-Err c).Start)) (tidy (stay (goal.at.returns-in-Err c).Start)) l.0 (measured-bad (unwritable 0 (all (goal.at.returns-in-Err c).Start)) (sizes_of (stay (goal.at.returns-in-Err c).Start)) l (sym c.measure_marked.ensures.is ∙ c.in-Err.is))) in
    record { answer = told.0; wrote = told.1 }

pub returns-else-unfit-ne0 : goal.returns-else-unfit-ne0
returns-else-unfit-ne0 c =
    let told = written-answer (asked (goal.at.returns-else-unfit-ne0 c).Start) c.args.out.now (tidy (stay (goal.at.returns-else-unfit-ne0 c).Start)) c.put_marked-n.new.out c.put_marked-n.result
    (write-fits (length c.args.out.now) (unwritable 0 (all (goal.at.returns-else-unfit-ne0 c).Start)) (tidy (stay (goal.at.returns-else-unfit-ne0 c).Start)) (measured (goal.at.returns-else-unfit-ne0 c).In-Ok).0 (c.total-n.result + 0) c.fit-unfit.result (omega (arith, counted (goal.at.returns-else-unfit-ne0 c).After-total-n)) c.fit-unfit.ensures c.if-unfit-ne0.false)
    c.put_marked-n.ensures.next c.put_marked-n.ensures.wrote in
    record { answer = told.0; wrote = told.1 }
