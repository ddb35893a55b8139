-- `binary_out::write_accepted` meets its contract: the tidy text and the SQ list are measured, then written.
use Prim.Native.Nat.{◌+◌, ◌≤◌}
use mathlib.Core.Path.{◌≡◌, sym, ap, ◌∙◌}
use mathlib.Core.Option.{none}
use native.Mathlib.Omega.{arith}
use lib.ListN.{length}
use Rattle.format.specs.Tidy.{tidy, unwritable}
use Rattle.accepted.specs.Read.{records_of}
use Rattle.accepted.proofs.Read.{accepted-reads}
use Rattle.accepted.proofs.Text.{text-fits}
use Rattle.format.specs.References.{sq_list}
use Rattle.format.specs.Binary.{list_bytes}
use Rattle.binary_references.proofs.Next.{sq-all}
use Rattle.binary_put.specs.Size.{list_size}
use Rattle.tidy_sizes.specs.Numbers.{total}
use Rattle.tidy_sizes.proofs.Plan.{unfit-not}
use Rattle.tidy_text.specs.Sizes.{sizes_of}
use Rattle.tidy_text.proofs.Lines.{opened}
use Rattle.tidy_text.proofs.Total.{tidy-small}
use Rattle.tidy_text.proofs.Sizes.{total_size}
use Rattle.read.proofs.AnswerCases.{refused-answer, written-answer}
use Rattle.tidy.proofs.Writing.{measured-bad, measured-is}
use Rattle.binary_out.specs.Written.{binary_of, writing_binary}
use Rattle.binary_out.proofs.Whole.{binary-length, out-bad, out-unfit, out-fits}
use Rattle.binary_out.proofs.write_accepted.Goals as goal
use Rattle.binary_out.proofs.write_accepted.Goals.{After-measure_list-list, After-total-n, Else-unfit-ne0, In-Ok}

-- every name can be written, and the sizes are those of the tidy text
measured : (c : In-Ok)
    → let rs = records_of c.args.text.now in
    (unwritable 0 rs ≡ none) × (sizes_of rs ≡ c.in-Ok.sizes)
measured c =
    let rs = records_of c.args.text.now in
    measured-is (unwritable 0 rs) (sizes_of rs) c.in-Ok.sizes (sym c.measure.ensures.is ∙ c.in-Ok.is)

-- how many bytes it has
sum : (c : In-Ok) → total c.in-Ok.sizes ≡ length (tidy (records_of c.args.text.now))
sum c = ap total (sym (measured c).1) ∙ total_size (records_of c.args.text.now)

counted : (c : After-total-n) → length (tidy (records_of c.args.text.now)) ≡ c.total-n.result
counted c = sym (c.total-n.ensures ∙ sum (goal.at.After-total-n c).In-Ok)

-- the list's size is that of the SQ list
list-size : (c : After-measure_list-list)
    → let rs = records_of c.args.text.now in
    (c.measure_list-list.result.count ≡ length (sq_list rs)) × (c.measure_list-list.result.bytes ≡ length (list_bytes (sq_list rs)))
unfolding list_size
list-size c =
    let t = c.args.text.now in
    let e = c.measure_list-list.ensures.size ∙ ap list_size (sq-all c.args.strict t (records_of t) (accepted-reads t c.requires.text_value) c.requires.reads_by) in
    (ap (λ z. z.count) e, ap (λ z. z.bytes) e)

-- and so is the whole header's
whole : (c : After-measure_list-list) → length (binary_of c.args.text.now) ≡ c.total-n.result + 0 + (12 + c.measure_list-list.result.bytes)
whole c =
    let rs = records_of c.args.text.now in
    omega (arith, counted (goal.at.After-measure_list-list c).After-total-n, (list-size c).1, binary-length (tidy rs) (sq_list rs))

pub total-n-requires : goal.total-n-requires
total-n-requires c =
    let a = c.args in
    omega (arith, sum c, (tidy-small a.strict a.text.now (opened a.strict a.text.now c.requires.text_value c.requires.reads_by)).1)

pub measure_list-list-requires : goal.measure_list-list-requires
measure_list-list-requires c =
    let t = c.args.text.now in
    text-fits t (records_of t) (accepted-reads t c.requires.text_value)

pub fit-unfit-requires : goal.fit-unfit-requires
fit-unfit-requires c = omega (arith, c.measure_list-list.ensures.small)

pub returns-then-unfit-ne0 : goal.returns-then-unfit-ne0
returns-then-unfit-ne0 c =
    let a = c.args in
    let room = length a.out.now in
    let told = refused-answer (writing_binary a.text.now room) a.out.now (record { number = c.fit-unfit.result; line = record { 0 = 0 } })
    (out-unfit a.text.now room (measured (goal.at.returns-then-unfit-ne0 c).In-Ok).0 (c.total-n.result + 0) (12 + c.measure_list-list.result.bytes) c.fit-unfit.result (omega (arith, counted (goal.at.returns-then-unfit-ne0 c).After-total-n)) (whole (goal.at.returns-then-unfit-ne0 c).After-measure_list-list) c.fit-unfit.ensures c.if-unfit-ne0.true) in
    record { answer = rw c.of_text.ensures told.0; wrote = told.1 }

-- it fits
fits : (e : Else-unfit-ne0)
    → (e.total-n.result + 0 ≤ 16777216) × (e.total-n.result + 0 + (12 + e.measure_list-list.result.bytes) ≤ length e.args.out.now)
fits e =
    unfit-not (e.total-n.result + 0) (12 + e.measure_list-list.result.bytes) (length e.args.out.now) e.fit-unfit.result e.fit-unfit.ensures e.if-unfit-ne0.false

pub overflow_add-whole : goal.overflow_add-whole
overflow_add-whole c = omega (arith, (fits c).0, c.measure_list-list.ensures.small)

pub put_binary-requires : goal.put_binary-requires
put_binary-requires c = record {
  text_value = c.requires.text_value;
  reads_by = c.requires.reads_by;
  sizes_value = sym (measured (goal.at.put_binary-requires c).In-Ok).1;
  n_value = sym (counted (goal.at.put_binary-requires c).After-total-n);
  count_value = (list-size (goal.at.put_binary-requires c).After-measure_list-list).0;
  n_bound = omega (arith, (fits (goal.at.put_binary-requires c).Else-unfit-ne0).0);
  text_in_bounds = omega (arith, whole (goal.at.put_binary-requires c).After-measure_list-list, (fits (goal.at.put_binary-requires c).Else-unfit-ne0).1);
}

pub returns-in-Err : goal.returns-in-Err
returns-in-Err c =
    let a = c.args in
    let rs = records_of a.text.now in
    let room = length a.out.now in
    let l = c.in-Err.line in
    let told = refused-answer (writing_binary a.text.now room) a.out.now (record { number = 24; line = l })
    (out-bad a.text.now room l.0 (measured-bad (unwritable 0 rs) (sizes_of rs) l (sym c.measure.ensures.is ∙ c.in-Err.is))) in
    record { answer = told.0; wrote = told.1 }

pub returns-else-unfit-ne0 : goal.returns-else-unfit-ne0
returns-else-unfit-ne0 c =
    let a = c.args in
    let room = length a.out.now in
    let told = written-answer (writing_binary a.text.now room) a.out.now (binary_of a.text.now) c.put_binary.new.out (c.total-n.result + (12 + c.measure_list-list.result.bytes))
    (out-fits a.text.now room (measured (goal.at.returns-else-unfit-ne0 c).In-Ok).0 (c.total-n.result + 0) (12 + c.measure_list-list.result.bytes) c.fit-unfit.result (omega (arith, counted (goal.at.returns-else-unfit-ne0 c).After-total-n)) (whole (goal.at.returns-else-unfit-ne0 c).After-measure_list-list) c.fit-unfit.ensures c.if-unfit-ne0.false)
    (omega (arith, whole (goal.at.returns-else-unfit-ne0 c).After-measure_list-list)) c.put_binary.ensures in
    record { answer = told.0; wrote = told.1 }
