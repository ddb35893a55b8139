-- `add::add_after` meets its contract: 18 and 19 by the IDs and the counts, and then what is written.
use Prim.Native.Nat.{ℕ, ◌+◌, ◌-◌, ◌/◌, ◌≤◌}
use mathlib.Core.Path.{◌≡◌, sym, ap, ap₂, ◌∙◌}
use mathlib.Core.Bool.{Bool, true, false, not, cond}
use mathlib.Core.List.{List, ◌++◌}
use native.Mathlib.Omega.{arith}
use lib.ListN.{length, take, drop, length-map}
use lib.Dec.{eqb}
use borrow.Author.Tests.{eqb-false}
use Rattle.format.specs.Fields.{Field}
use Rattle.format.specs.Records.{Record}
use Rattle.format.specs.Reading.{read_text, accept}
use Rattle.format.specs.Programs.{programs, links, leaves, ordinal_from}
use Rattle.format.specs.Tidy.{tidy, unwritable}
use Rattle.format.specs.Adding.{given, is_known, added, used}
use Rattle.format.specs.Calls.{writing}
use Rattle.accepted.specs.Read.{records_of}
use Rattle.accepted.proofs.Read.{accepted-reads}
use Rattle.byte_slices.proofs.Before.{rest}
use Rattle.program_ids.specs.Ids.{ids_at, IdsInText}
use Rattle.program_ids.specs.Search.{ids_of}
use Rattle.program_ids.proofs.Ids.{ids-length}
use Rattle.program_parents.proofs.Numbers.{links-count}
use Rattle.program_parents.proofs.Own.{few-programs}
use Rattle.read.specs.Answers.{answer_of, output_of}
use Rattle.read.proofs.AnswerCases.{refused-answer}
use Rattle.program_chains.proofs.Leaf.{leaves-length}
use Rattle.add_ids.specs.Taken.{is_among, taken}
use Rattle.add_input.proofs.Text.{given-text}
use Rattle.add_lines.specs.Lines.{added_text}
use Rattle.add.specs.Added.{with_added, leaves_of, adding_on}
use Rattle.add.proofs.On.{joined-on, joined-within, free-is, taken_is, count-is, on-used, on-many, on-few, written_is}
use Rattle.add.proofs.add_after.Goals as goal
use Rattle.add.proofs.add_after.Goals.{After-first_joined-first, After-is_free-alone, After-is_taken, After-new_count, Start}

-- the records, and what is given
abbrev records : Start → List Record
records s = records_of s.args.text.now

abbrev fields_of : Start → List Field
fields_of s = (given s.args.fields.now).fields

reads : (s : Start) → read_text s.args.text.now ≡ accept (records s)
reads s = accepted-reads s.args.text.now s.requires.text_value

-- the IDs that are lent are those of the programs
placed : (s : Start) → IdsInText s.args.text.now s.args.ids.now
placed s = s.requires.ids_in_text.0

abbrev ids : Start → List (List ℕ)
ids s = ids_at s.args.text.now s.args.ids.now

count-are : (s : Start) → length s.args.ids.now / 3 ≡ length (programs (records s))
count-are s =
    let ps = programs (records s) in
    omega (arith, ids-length s.args.text.now s.args.ids.now (placed s), ap length s.requires.ids_in_text.1, length-map ps (λ p. p.id))

-- the leaves, no more than the programs
leaves-are : (s : Start) → s.args.leaves.now ≡ leaves (links (programs (records s)))
unfolding leaves_of
leaves-are s = s.requires.leaves_value.0

counts : (s : Start) → (length s.args.ids.now / 3 ≤ 1024) × (length s.args.leaves.now ≤ 1024)
counts s =
    let ps = programs (records s) in
    let n = few-programs s.args.text.now s.requires.text_value in
    (omega (arith, n, count-are s), omega (arith, n, ap length (leaves-are s), leaves-length (links ps), links-count ps))

-- the prefix is free
free : (c : After-is_free-alone) → c.is_free-alone.result ≡ not (is_known (ordinal_from 0 c.args.prefix.now (programs (records (goal.at.After-is_free-alone c).Start))))
free c =
    c.is_free-alone.ensures ∙ ap (λ xs. not (is_among c.args.prefix.now xs)) c.requires.ids_in_text.1 ∙ free-is c.args.text.now (records (goal.at.After-is_free-alone c).Start) (reads (goal.at.After-is_free-alone c).Start) c.args.prefix.now (fields_of (goal.at.After-is_free-alone c).Start)

-- the first leaf whose ID is joined is one of them, or after them
within : (c : After-first_joined-first) → c.first_joined-first.result ≤ length c.args.leaves.now
within c = omega (arith, c.first_joined-first.ensures, joined-within (length c.args.leaves.now) c.is_free-alone.result)

-- an ID of the new programs is used
used-is : (c : After-is_taken)
    → c.is_taken.result ≡ used (programs (records (goal.at.After-is_taken c).Start)) (programs (added c.args.prefix.now (fields_of (goal.at.After-is_taken c).Start) (programs (records (goal.at.After-is_taken c).Start))))
used-is c =
    let a = c.args in
    let ks = c.args.leaves.now in
    let alone = c.is_free-alone.result in
    let own = ids_of (programs (records (goal.at.After-is_taken c).Start)) in
    c.is_taken.ensures
    ∙ ap (λ xs. taken xs a.prefix.now (take (length ks - c.first_joined-first.result) (drop c.first_joined-first.result ks))) c.requires.ids_in_text.1
    ∙ ap (taken own a.prefix.now) (rest c.first_joined-first.result ks ∙ ap (λ n. drop n ks) c.first_joined-first.ensures ∙ joined-on ks alone)
    ∙ ap (λ xs. taken own a.prefix.now (cond alone (drop 1 xs) xs)) (leaves-are (goal.at.After-is_taken c).Start)
    ∙ taken_is a.text.now (records (goal.at.After-is_taken c).Start) (reads (goal.at.After-is_taken c).Start) a.prefix.now (fields_of (goal.at.After-is_taken c).Start) alone (free (goal.at.After-is_taken c).After-is_free-alone)

-- how many there are with the new ones
new_is : (c : After-new_count)
    → c.new_count.result ≡ length (added c.args.prefix.now (fields_of (goal.at.After-new_count c).Start) (programs (records (goal.at.After-new_count c).Start)))
new_is c =
    c.new_count.ensures
    ∙ ap (λ n. cond (eqb n 0) 1 (length c.args.leaves.now)) (count-are (goal.at.After-new_count c).Start)
    ∙ ap (λ xs. cond (eqb (length (programs (records (goal.at.After-new_count c).Start))) 0) 1 (length xs)) (leaves-are (goal.at.After-new_count c).Start)
    ∙ count-is c.args.text.now (records (goal.at.After-new_count c).Start) (reads (goal.at.After-new_count c).Start) c.args.prefix.now (fields_of (goal.at.After-new_count c).Start)

-- no more are added than there are leaves, but for the one
new-most : (n : ℕ) (empty : Bool) → cond empty 1 n ≤ 1 + n
new-most n true = omega arith
new-most n false = omega arith

pub is_free-alone-requires : goal.is_free-alone-requires
is_free-alone-requires c = placed (goal.at.is_free-alone-requires c).Start

pub offset_bounds-leaves-first : goal.offset_bounds-leaves-first
offset_bounds-leaves-first c = omega (arith, within c)

pub slice_bounds-is_taken-count : goal.slice_bounds-is_taken-count
slice_bounds-is_taken-count c = within c

pub slice_bounds-is_taken-start : goal.slice_bounds-is_taken-start
slice_bounds-is_taken-start c = omega (arith, within c)

pub is_taken-requires : goal.is_taken-requires
is_taken-requires c = placed (goal.at.is_taken-requires c).Start

pub returns-then-is_taken : goal.returns-then-is_taken
returns-then-is_taken c =
    let a = c.args in
    let room = length a.out.now in
    let told = refused-answer (adding_on (records (goal.at.returns-then-is_taken c).Start) a.prefix.now (fields_of (goal.at.returns-then-is_taken c).Start) room) a.out.now (record { number = 18; line = record { 0 = 0 } })
    (on-used (records (goal.at.returns-then-is_taken c).Start) a.prefix.now (fields_of (goal.at.returns-then-is_taken c).Start) room (sym (used-is (goal.at.returns-then-is_taken c).After-is_taken) ∙ c.if-is_taken.true)) in
    record { answer = rw c.of_text.ensures told.0; wrote = told.1 }

pub overflow_add-count : goal.overflow_add-count
overflow_add-count c =
    omega (arith, counts (goal.at.overflow_add-count c).Start, c.new_count.ensures, new-most (length c.args.leaves.now) (eqb (length c.args.ids.now / 3) 0))

pub returns-then-count-new_count-gt1024 : goal.returns-then-count-new_count-gt1024
returns-then-count-new_count-gt1024 c =
    let a = c.args in
    let room = length a.out.now in
    let told = refused-answer (adding_on (records (goal.at.returns-then-count-new_count-gt1024 c).Start) a.prefix.now (fields_of (goal.at.returns-then-count-new_count-gt1024 c).Start) room) a.out.now (record { number = 19; line = record { 0 = 0 } })
    (on-many (records (goal.at.returns-then-count-new_count-gt1024 c).Start) a.prefix.now (fields_of (goal.at.returns-then-count-new_count-gt1024 c).Start) room (sym (used-is (goal.at.returns-then-count-new_count-gt1024 c).After-is_taken) ∙ c.if-is_taken.false) (omega (arith, c.if-count-new_count-gt1024.true, new_is (goal.at.returns-then-count-new_count-gt1024 c).After-new_count, count-are (goal.at.returns-then-count-new_count-gt1024 c).Start))) in
    record { answer = rw c.of_text-then-count-new_count-gt1024.ensures told.0; wrote = told.1 }

pub write_added-requires : goal.write_added-requires
write_added-requires c = record {
  text_value = c.requires.text_value;
  reads_by = c.requires.reads_by;
  ids_in_text = placed (goal.at.write_added-requires c).Start;
  leaves_len_bound = ((counts (goal.at.write_added-requires c).Start).1, λ e. c.requires.leaves_value.1 (omega (arith, eqb-false (length c.args.ids.now / 3) 0 e)));
}

pub returns : goal.returns
returns c =
    let a = c.args in
    let room = length a.out.now in
    let rs = records (goal.at.returns c).Start in
    let alone = c.is_free-alone.result in
    let empty = eqb (length a.ids.now / 3) 0 in
    let whole : with_added rs (added_text (ids (goal.at.returns c).Start) empty alone a.known.linked a.prefix.now a.fields.now a.leaves.now) ≡ tidy (rs ++ added a.prefix.now (fields_of (goal.at.returns c).Start) (programs rs)) =
    ap₂ (λ own xs. with_added rs (added_text own empty alone a.known.linked a.prefix.now a.fields.now xs)) c.requires.ids_in_text.1 (leaves-are (goal.at.returns c).Start)
    ∙ written_is rs a.prefix.now a.fields.now (fields_of (goal.at.returns c).Start) (given-text a.fields.now c.requires.fields_value.0) empty alone a.known.linked (ap (λ m. eqb m 0) (count-are (goal.at.returns c).Start)) (free (goal.at.returns c).After-is_free-alone) c.requires.fields_value.1 in
    let on : writing room (unwritable 0 rs) (with_added rs (added_text (ids (goal.at.returns c).Start) empty alone a.known.linked a.prefix.now a.fields.now a.leaves.now)) ≡ adding_on rs a.prefix.now (fields_of (goal.at.returns c).Start) room =
    ap (writing room (unwritable 0 rs)) whole
    ∙ sym (on-few rs a.prefix.now (fields_of (goal.at.returns c).Start) room (sym (used-is (goal.at.returns c).After-is_taken) ∙ c.if-is_taken.false) (omega (arith, c.if-count-new_count-gt1024.false, new_is (goal.at.returns c).After-new_count, count-are (goal.at.returns c).Start))) in record {
      answer = c.write_added.ensures.answer ∙ ap answer_of on;
      wrote = c.write_added.ensures.wrote ∙ ap (λ x. output_of x a.out.now) on;
    }
