-- `names::names` meets its contract: reading, 21, 1, 20, then the index, the ordinals and the looks.
use Prim.Native.Nat.{ℕ, ◌≤◌}
use mathlib.Core.Path.{◌≡◌, sym, ap, ap₂, ◌∙◌}
use mathlib.Core.List.{List, ◌++◌, map}
use native.Mathlib.Omega.{arith}
use lib.ListN.{length, drop, length-map}
use lib.Seq.{length-take-le}
use Rattle.std.proofs.lemmas.Result.{err_from_is_err_and}
use Rattle.catalogue_entries.specs.Entries.{entries_in}
use Rattle.format.specs.Calls.{Answer}
use Rattle.read.proofs.Fresh.{Current, refused-by, check-fresh}
use Rattle.format.specs.NameIndex.{name_ordinal, slot_count, index, looks}
use Rattle.name_index.proofs.Indexed.{index-length}
use Rattle.name_entries.specs.Names.{names_in}
use Rattle.format.specs.Asked.{asked}
use Rattle.format.specs.Summed.{summed}
use Rattle.format.specs.Batch.{batching}
use Rattle.names.proofs.Batched.{batch-refused, batch-long, batch-work, batch-room, batch-all, few, short, many, told, told-refusal, told-answer}
use Rattle.names.proofs.names.Goals as goal
use Rattle.names.proofs.names.Goals.{After-count-m, After-slot_count-n, In_ok-check, Start}

-- ---- once the check passed

-- the catalogue is the text's own
own : (c : In_ok-check) → let a = c.args in Current a.text.now a.catalogue.now
own c = let a = c.args in check-fresh a.text.now a.catalogue.now (sym c.check.ensures ∙ c.in_ok-check.was)

-- the names of its SQ
abbrev names : In_ok-check → List (List ℕ)
names c = let a = c.args in names_in a.text.now (entries_in a.catalogue.now)

abbrev batch : Start → Answer (List ℕ × List ℕ × ℕ)
batch s = batching s.args.text.now s.args.catalogue.now s.args.list.now (length s.args.work.now) (length s.args.out.now)

-- how many there are
number : (c : After-count-m) → c.count-m.result ≡ length (names (goal.at.After-count-m c).In_ok-check)
number c = let a = c.args in c.count-m.ensures ∙ many a.text.now a.catalogue.now (own (goal.at.After-count-m c).In_ok-check)

few-names : (c : After-count-m) → c.count-m.result ≤ 16777216
few-names c = let a = c.args in omega (arith, number c, few a.text.now a.catalogue.now (own (goal.at.After-count-m c).In_ok-check))

-- how many slots
slots : (c : After-slot_count-n) → c.slot_count-n.result ≡ slot_count (length (names (goal.at.After-slot_count-n c).In_ok-check))
slots c = c.slot_count-n.ensures ∙ ap slot_count (number (goal.at.After-slot_count-n c).After-count-m)

pub returns-then-list-gt-LONGEST : goal.returns-then-list-gt-LONGEST
returns-then-list-gt-LONGEST c =
    let a = c.args in
    let told = told-refusal (batch (goal.at.returns-then-list-gt-LONGEST c).Start) a.work.now a.out.now (record { number = 1; line = record { 0 = 0 } }) (batch-long a.text.now a.catalogue.now (own (goal.at.returns-then-list-gt-LONGEST c).In_ok-check) a.list.now (length a.work.now) (length a.out.now) c.if-list-gt-LONGEST.true) in
    record { answer = rw c.of_text.ensures told.0; slots = told.1.0; found = told.1.1 }

pub overflow_cast-m : goal.overflow_cast-m
overflow_cast-m c = omega (arith, few-names c)

pub slot_count-n-requires : goal.slot_count-n-requires
slot_count-n-requires c = few-names c

pub returns-then-room-n : goal.returns-then-room-n
returns-then-room-n c =
    let a = c.args in
    let told = told-refusal (batch (goal.at.returns-then-room-n c).Start) a.work.now a.out.now (record { number = 20; line = record { 0 = 0 } })
    (batch-work a.text.now a.catalogue.now (own (goal.at.returns-then-room-n c).In_ok-check) a.list.now (length a.work.now) (length a.out.now) c.if-list-gt-LONGEST.false (omega (arith, slots (goal.at.returns-then-room-n c).After-slot_count-n, c.if-room-n.true))) in
    record { answer = rw c.of_text-then-room-n.ensures told.0; slots = told.1.0; found = told.1.1 }

pub returns-then-out-names : goal.returns-then-out-names
returns-then-out-names c =
    let a = c.args in
    let told = told-refusal (batch (goal.at.returns-then-out-names c).Start) a.work.now a.out.now (record { number = 20; line = record { 0 = 0 } })
    (batch-room a.text.now a.catalogue.now (own (goal.at.returns-then-out-names c).In_ok-check) a.list.now (length a.work.now) (length a.out.now) c.if-list-gt-LONGEST.false (omega (arith, slots (goal.at.returns-then-out-names c).After-slot_count-n, c.if-room-n.false)) (omega (arith, c.count_names-names.ensures, c.if-out-names.true))) in
    record { answer = rw c.of_text-then-out-names.ensures told.0; slots = told.1.0; found = told.1.1 }

pub slice_bounds-answer-end-2 : goal.slice_bounds-answer-end-2
slice_bounds-answer-end-2 c =
    sym (length-take-le _ c.args.work.now (omega (arith, c.if-room-n.false)))

pub slice_bounds-answer-end-4 : goal.slice_bounds-answer-end-4
slice_bounds-answer-end-4 c =
    sym (length-take-le _ c.args.out.now c.if-out-names.false)

pub answer-looks-requires : goal.answer-looks-requires
answer-looks-requires c =
    let p = (goal.at.answer-looks-requires c).In_ok-check in
    let a = c.args in
    record {
      short = short a.text.now a.catalogue.now (own p);
      short-list = c.if-list-gt-LONGEST.false;
      few = few a.text.now a.catalogue.now (own p);
      size = length-take-le c.slot_count-n.result a.work.now c.if-room-n.false ∙ slots (goal.at.answer-looks-requires c).After-slot_count-n;
      room = length-take-le c.count_names-names.result a.out.now c.if-out-names.false ∙ c.count_names-names.ensures;
      count = number (goal.at.answer-looks-requires c).After-count-m;
      told = told a.text.now a.catalogue.now (own p);
    }

pub returns-in_err-check : goal.returns-in_err-check
returns-in_err-check c =
    let a = c.args in
    let r = c.in_err-check.field-0.0 in
    let p = err_from_is_err_and c.from_residual.result c.from_residual.ensures.1 in
    let told = told-refusal (batch (goal.at.returns-in_err-check c).Start) a.work.now a.out.now r
    (batch-refused a.text.now a.catalogue.now a.list.now (length a.work.now) (length a.out.now) r.number r.line.0 (refused-by a.text.now a.catalogue.now c.check.ensures r c.in_err-check.was)) in
    record { answer = rw (p.1, p.2) told.0; slots = told.1.0; found = told.1.1 }

pub returns : goal.returns
returns c =
    let w = (goal.at.returns c).After-slot_count-n in
    let p = (goal.at.returns c).In_ok-check in
    let a = c.args in
    let xs = names p in
    let found = map (name_ordinal xs) (asked a.list.now) in
    let count : c.count_names-names.result ≡ length found = c.count_names-names.ensures ∙ sym (length-map (asked a.list.now) (name_ordinal xs)) in
    let many : c.slot_count-n.result ≡ length (index xs) = slots w ∙ sym (index-length xs) in
    let told = told-answer (batch (goal.at.returns c).Start) a.work.now a.out.now found (index xs) (summed (looks xs) (asked a.list.now))
    (batch-all a.text.now a.catalogue.now (own p) a.list.now (length a.work.now) (length a.out.now) c.if-list-gt-LONGEST.false (omega (arith, slots w, c.if-room-n.false)) (omega (arith, c.count_names-names.ensures, c.if-out-names.false)))
    c.count_names-names.result count c.answer-looks.result c.answer-looks.ensures.looks
    (c.answer-looks.new.slots ++ drop c.slot_count-n.result a.work.now) (c.answer-looks.new.out ++ drop c.count_names-names.result a.out.now)
    (ap₂ (λ l m. l ++ drop m a.work.now) c.answer-looks.ensures.slots many) (ap₂ (λ l m. l ++ drop m a.out.now) c.answer-looks.ensures.found count) in
    record { answer = told.0; slots = told.1.0; found = told.1.1 }
