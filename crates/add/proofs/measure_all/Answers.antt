-- `add::measure_all` meets its contract: what the tidy text and the new programs have together is known before a byte is written.
use Prim.Native.Nat.{ℕ, ◌+◌, ◌≤◌}
use mathlib.Core.Path.{◌≡◌, refl, sym, ap, ◌∙◌}
use mathlib.Core.List.{List}
use mathlib.Core.Option.{none}
use native.Mathlib.Omega.{arith}
use lib.ListN.{length}
use Rattle.std.specs.Prelude.{Result, Ok}
use Rattle.format.specs.Records.{Record}
use Rattle.format.specs.declared.Refusal.{Refusal}
use Rattle.format.specs.Tidy.{tidy, unwritable}
use Rattle.accepted.specs.Read.{records_of}
use Rattle.program_ids.specs.Ids.{ids_at}
use Rattle.tidy_sizes.specs.Numbers.{total}
use Rattle.tidy_text.specs.Sizes.{sizes_of}
use Rattle.tidy_text.proofs.Lines.{opened}
use Rattle.tidy_text.proofs.Total.{tidy-small}
use Rattle.tidy_text.proofs.Sizes.{total_size}
use Rattle.tidy_sizes.proofs.Plan.{unfit-long, write-bad, write-unfit, write-fits}
use Rattle.tidy.proofs.Writing.{measured-bad, measured-is}
use Rattle.add_lines.specs.Lines.{added_text}
use Rattle.add.specs.Added.{with_added, planned_of}
use Rattle.add.specs.declared.Plan.{Plan}
use Rattle.add.proofs.Sizes.{with_size, added-long, both-short}
use Rattle.add.proofs.measure_all.Goals as goal
use Rattle.add.proofs.measure_all.Goals.{After-added_len-more, After-total-n, In-Ok, Start}

-- the records of the text, what is added, and the whole
abbrev records : Start → List Record
records s = records_of s.args.text.now

abbrev new : Start → List ℕ
new s = let a = s.args in added_text (ids_at a.text.now a.ids.now) a.ways.shape.empty a.ways.shape.alone a.ways.shape.linked a.prefix.now a.fields.now a.leaves.now

abbrev whole : Start → List ℕ
whole s = with_added (records s) (new s)

-- what is measured
abbrev sound : Start → Plan
sound s = record { ways = s.args.ways; sizes = sizes_of (records s); more = length (new s) }

abbrev answer : Plan → Result Plan Refusal
answer p = Ok p

-- every name can be written, and the sizes are those of the tidy text
measured : (z : In-Ok) → let rs = records (goal.at.In-Ok z).Start in (unwritable 0 rs ≡ none) × (sizes_of rs ≡ z.in-Ok.sizes)
measured z =
    let rs = records (goal.at.In-Ok z).Start in
    measured-is (unwritable 0 rs) (sizes_of rs) z.in-Ok.sizes (sym z.measure.ensures.is ∙ z.in-Ok.is)

-- how many bytes it has
sum : (z : In-Ok) → (total z.in-Ok.sizes ≡ length (tidy (records (goal.at.In-Ok z).Start))) × (length (tidy (records (goal.at.In-Ok z).Start)) ≤ 16777217)
sum z =
    (ap total (sym (measured z).1) ∙ total_size (records (goal.at.In-Ok z).Start), (tidy-small z.args.ways.strict z.args.text.now (opened z.args.ways.strict z.args.text.now z.requires.text_value z.requires.reads_by)).1)

counted : (c : After-total-n) → length (tidy (records (goal.at.After-total-n c).Start)) ≡ c.total-n.result
counted c = sym (c.total-n.ensures ∙ (sum (goal.at.After-total-n c).In-Ok).0)

-- the whole is as long as both
size : (c : After-added_len-more) → (length (whole (goal.at.After-added_len-more c).Start) ≡ c.total-n.result + c.added_len-more.result)
size c =
    omega (arith, with_size (records (goal.at.After-added_len-more c).Start) (new (goal.at.After-added_len-more c).Start), counted (goal.at.After-added_len-more c).After-total-n, c.added_len-more.ensures)

pub total-n-requires : goal.total-n-requires
total-n-requires c = omega (arith, sum c)

pub returns-then-is_too_long : goal.returns-then-is_too_long
unfolding planned_of
returns-then-is_too_long c =
    let a = c.args in
    let room = c.args.room in
    let long = added-long (ids_at a.text.now a.ids.now) a.ways.shape.linked a.prefix.now a.fields.now a.ways.shape.empty a.ways.shape.alone a.leaves.now c.requires.leaves_len_bound.1 (sym c.is_too_long.ensures ∙ c.if-is_too_long.true) in
    rw c.of_text.ensures (sym (ap (planned_of (sound (goal.at.returns-then-is_too_long c).Start)) (write-unfit room (unwritable 0 (records (goal.at.returns-then-is_too_long c).Start)) (whole (goal.at.returns-then-is_too_long c).Start) (measured (goal.at.returns-then-is_too_long c).In-Ok).0 (length (whole (goal.at.returns-then-is_too_long c).Start)) 1 refl (unfit-long (length (whole (goal.at.returns-then-is_too_long c).Start)) 0 room (omega (arith, with_size (records (goal.at.returns-then-is_too_long c).Start) (new (goal.at.returns-then-is_too_long c).Start), long))) (λ z. omega (arith, z)))))

pub added_len-more-requires : goal.added_len-more-requires
added_len-more-requires c =
    let b = both-short c.args.prefix.now c.args.fields.now (sym c.is_too_long.ensures ∙ c.if-is_too_long.false) in record {
      ids_in_text = c.requires.ids_in_text;
      text_len_bound = ((opened c.args.ways.strict c.args.text.now c.requires.text_value c.requires.reads_by).fits, b.0, b.1, c.requires.leaves_len_bound.0);
    }

pub returns-then-unfit-ne0 : goal.returns-then-unfit-ne0
unfolding planned_of
returns-then-unfit-ne0 c =
    rw c.of_text-then-unfit-ne0.ensures (sym (ap (planned_of (sound (goal.at.returns-then-unfit-ne0 c).Start)) (write-unfit c.args.room (unwritable 0 (records (goal.at.returns-then-unfit-ne0 c).Start)) (whole (goal.at.returns-then-unfit-ne0 c).Start) (measured (goal.at.returns-then-unfit-ne0 c).In-Ok).0 _ c.fit-unfit.result (size (goal.at.returns-then-unfit-ne0 c).After-added_len-more) c.fit-unfit.ensures c.if-unfit-ne0.true)))

pub returns-in-Err : goal.returns-in-Err
unfolding planned_of
returns-in-Err c =
    let room = c.args.room in
    let l = c.in-Err.line in
    sym (ap (planned_of (sound (goal.at.returns-in-Err c).Start)) (write-bad room (unwritable 0 (records (goal.at.returns-in-Err c).Start)) (whole (goal.at.returns-in-Err c).Start) l.0 (measured-bad (unwritable 0 (records (goal.at.returns-in-Err c).Start)) (sizes_of (records (goal.at.returns-in-Err c).Start)) l (sym c.measure.ensures.is ∙ c.in-Err.is))))

pub returns-else-unfit-ne0 : goal.returns-else-unfit-ne0
unfolding planned_of
returns-else-unfit-ne0 c =
    let p = sound (goal.at.returns-else-unfit-ne0 c).Start in
    ap (λ n. answer (record { ways = p.ways; sizes = n; more = c.added_len-more.result })) (sym (measured (goal.at.returns-else-unfit-ne0 c).In-Ok).1)
    ∙ ap (λ n. answer (record { ways = p.ways; sizes = p.sizes; more = n })) c.added_len-more.ensures
    ∙ sym (ap (planned_of p) (write-fits c.args.room (unwritable 0 (records (goal.at.returns-else-unfit-ne0 c).Start)) (whole (goal.at.returns-else-unfit-ne0 c).Start) (measured (goal.at.returns-else-unfit-ne0 c).In-Ok).0 _ c.fit-unfit.result (size (goal.at.returns-else-unfit-ne0 c).After-added_len-more) c.fit-unfit.ensures c.if-unfit-ne0.false))
