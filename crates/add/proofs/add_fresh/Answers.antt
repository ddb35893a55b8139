-- `add::add_fresh` meets its contract: 26, 22, 23, and then what is left once the leaves are known.
use Prim.Native.Nat.{ℕ, ◌*◌, ◌<◌}
use mathlib.Core.Path.{◌≡◌, sym, ap, ◌∙◌}
use mathlib.Core.Bool.{false}
use mathlib.Core.List.{List}
use native.Mathlib.Omega.{arith}
use lib.ListN.{length, take, length-take}
use lib.Seq.{length-take-le}
use borrow.Author.Tests.{not-true, not-false}
use Rattle.format.specs.Fields.{last_of}
use Rattle.format.specs.Programs.{Program, programs, links, leaves, tangled}
use Rattle.format.specs.Adding.{given, misformed}
use Rattle.format.specs.Calls.{adding}
use Rattle.accepted.specs.Read.{records_of}
use Rattle.program_chains.specs.Parents.{in_array}
use Rattle.program_chains.proofs.Arrays.{front, front-count}
use Rattle.program_chains.proofs.Leaf.{leaves-length}
use Rattle.program_parents.proofs.Numbers.{links-count}
use Rattle.program_ids.specs.Search.{ids_of}
use Rattle.program_parents.specs.Parents.{graph_of}
use Rattle.program_parents.specs.Placed.{ListsIds}
use Rattle.program_parents.proofs.Road.{graph-refusal, graph-untangled, graph-list, graph-count, some-leaf}
use Rattle.read.specs.Answers.{answer_of, output_of, checked_of}
use Rattle.read.proofs.AnswerCases.{refused-answer}
use Rattle.read.proofs.Fresh.{Current, check-fresh}
use Rattle.program_parents.proofs.Opened.{Opened, opened}
use Rattle.add_input.proofs.InForm.{in-form}
use Rattle.add.specs.Added.{is_nothing, stray, leaves_of, adding_on}
use Rattle.add.proofs.Prior.{nothing-none}
use Rattle.add.proofs.Adding.{add-misformed, add-stray, add-tangled, add-on}
use Rattle.add.proofs.add_fresh.Goals as goal
use Rattle.add.proofs.add_fresh.Goals.{After-find_own_leaves-own, After-is_stray, After-list_ids-count, In-Ok, Else-not-is_in_form, Start}

-- the catalogue is the text's own
own : (s : Start) → Current s.args.text.now s.args.catalogue.now
unfolding checked_of
own s = check-fresh s.args.text.now s.args.catalogue.now (ap checked_of s.requires.catalogue_value)

opens : (s : Start) → Opened s.args.text.now s.args.catalogue.now
opens s = opened s.args.text.now s.args.catalogue.now (own s).reads (own s).own

-- where the call began, seen from the list of the IDs, and from the leaves
abbrev start : After-list_ids-count → Start
start c = (goal.at.After-list_ids-count c).Start

abbrev origin : After-find_own_leaves-own → Start
origin c = start (goal.at.After-find_own_leaves-own c).After-list_ids-count

-- what is given is in form
formed : (c : Else-not-is_in_form) → misformed c.args.prefix.now (given c.args.fields.now) ≡ false
formed c = not-true _ (sym c.is_in_form.ensures ∙ c.if-not-is_in_form.false)

-- ---- what is listed

lists : (c : After-list_ids-count) → ListsIds (start c).args.text.now c.list_ids-count.new.ids c.list_ids-count.result
lists c = c.list_ids-count.ensures

-- a given PP that is no ID
prior : (c : After-is_stray)
    → let a = (start (goal.at.After-is_stray c).After-list_ids-count).args in
    stray (ids_of (programs (records_of a.text.now))) (last_of 80 80 (given a.fields.now).fields) ≡ c.is_stray.result
prior c =
    sym (c.is_stray.ensures ∙ ap (λ ids. stray ids (last_of 80 80 (given (start (goal.at.After-is_stray c).After-list_ids-count).args.fields.now).fields)) (lists (goal.at.After-is_stray c).After-list_ids-count).are)

-- ---- what is found

abbrev ps : After-find_own_leaves-own → List Program
ps c = programs (records_of (origin c).args.text.now)

graph_is : (c : After-find_own_leaves-own) → c.find_own_leaves-own.result ≡ graph_of (links (ps c))
graph_is c = c.find_own_leaves-own.ensures

abbrev xs : (c : In-Ok) → List ℕ
xs c = leaves (links (ps (goal.at.In-Ok c).After-find_own_leaves-own))

untangled : (c : In-Ok) → tangled (links (ps (goal.at.In-Ok c).After-find_own_leaves-own)) ≡ 0
untangled c = graph-untangled (links (ps (goal.at.In-Ok c).After-find_own_leaves-own)) c.find_own_leaves-own.result (graph_is (goal.at.In-Ok c).After-find_own_leaves-own) c.in-Ok.found c.in-Ok.is

listed : (c : In-Ok) → c.in-Ok.found.list ≡ in_array (xs c)
listed c = graph-list (links (ps (goal.at.In-Ok c).After-find_own_leaves-own)) c.find_own_leaves-own.result (graph_is (goal.at.In-Ok c).After-find_own_leaves-own) c.in-Ok.found c.in-Ok.is

counted : (c : In-Ok) → c.in-Ok.found.count ≡ length (xs c)
counted c = graph-count (links (ps (goal.at.In-Ok c).After-find_own_leaves-own)) c.find_own_leaves-own.result (graph_is (goal.at.In-Ok c).After-find_own_leaves-own) c.in-Ok.found c.in-Ok.is

-- they are the leaves of the records, and there are some where there are programs
leaves-are : (c : In-Ok) → take c.in-Ok.found.count c.in-Ok.found.list ≡ leaves_of (records_of (origin (goal.at.In-Ok c).After-find_own_leaves-own).args.text.now)
unfolding leaves_of
leaves-are c = front (xs c) c.in-Ok.found.list c.in-Ok.found.count (listed c) (counted c)

some : (c : In-Ok) → 0 < length (take (c.list_ids-count.result * 3) c.list_ids-count.new.ids) → 0 < length (take c.in-Ok.found.count c.in-Ok.found.list)
some c h =
    let few = (opens (start (goal.at.In-Ok c).After-list_ids-count)).few in
    let k = c.list_ids-count in
    omega (arith, some-leaf (ps (goal.at.In-Ok c).After-find_own_leaves-own) few (untangled c) (omega (arith, h, (lists (goal.at.In-Ok c).After-list_ids-count).counts, length-take (k.result * 3) k.new.ids)), ap length (leaves-are c), (counted c), front-count (xs c) c.in-Ok.found.list c.in-Ok.found.count (listed c) (counted c))

pub returns-then-not-is_in_form : goal.returns-then-not-is_in_form
returns-then-not-is_in_form c =
    let a = c.args in
    let room = length a.out.now in
    let told = refused-answer (adding a.text.now a.catalogue.now a.prefix.now a.fields.now room) a.out.now (record { number = 26; line = record { 0 = 0 } })
    (add-misformed a.text.now a.catalogue.now (own (goal.at.returns-then-not-is_in_form c).Start) a.prefix.now a.fields.now room (not-false _ (sym c.is_in_form.ensures ∙ c.if-not-is_in_form.true))) in
    record { answer = rw c.of_text.ensures told.0; wrote = told.1 }

pub find_previous-previous-requires : goal.find_previous-previous-requires
find_previous-previous-requires c = let a = c.args in (in-form a.prefix.now (given a.fields.now) (formed c)).stop

pub list_ids-count-requires : goal.list_ids-count-requires
list_ids-count-requires c = record {
  text_value = (opens (goal.at.list_ids-count-requires c).Start).accepted;
  catalogue_value = (own (goal.at.list_ids-count-requires c).Start).own;
  in_bounds = omega arith;
}

pub overflow_mul-end : goal.overflow_mul-end
overflow_mul-end c = omega (arith, (lists (goal.at.overflow_mul-end c).After-list_ids-count).counts, (opens (start (goal.at.overflow_mul-end c).After-list_ids-count)).few)

pub slice_bounds-list-end : goal.slice_bounds-list-end
slice_bounds-list-end c = (lists (goal.at.slice_bounds-list-end c).After-list_ids-count).long

pub slice_bounds-ids-end : goal.slice_bounds-ids-end
slice_bounds-ids-end c = let k = c.list_ids-count in sym (length-take-le (k.result * 3) k.new.ids (lists (goal.at.slice_bounds-ids-end c).After-list_ids-count).long)

pub is_stray-requires : goal.is_stray-requires
is_stray-requires c = record {
  ids_in_text = (lists (goal.at.is_stray-requires c).After-list_ids-count).listed;
  previous_value = c.find_previous-previous.ensures;
}

pub returns-then-is_stray : goal.returns-then-is_stray
returns-then-is_stray c =
    let a = c.args in
    let room = length a.out.now in
    let told = refused-answer (adding a.text.now a.catalogue.now a.prefix.now a.fields.now room) a.out.now (record { number = 22; line = record { 0 = 0 } })
    (add-stray a.text.now a.catalogue.now (own (goal.at.returns-then-is_stray c).Start) a.prefix.now a.fields.now room (formed (goal.at.returns-then-is_stray c).Else-not-is_in_form) (prior (goal.at.returns-then-is_stray c).After-is_stray ∙ c.if-is_stray.true)) in
    record { answer = rw c.of_text-then-is_stray.ensures told.0; wrote = told.1 }

pub find_own_leaves-own-requires : goal.find_own_leaves-own-requires
find_own_leaves-own-requires c = let s = start (goal.at.find_own_leaves-own-requires c).After-list_ids-count in record {
  text_value = (opens s).accepted;
  catalogue_value = (own s).own;
}

pub returns-in-Err : goal.returns-in-Err
returns-in-Err c =
    let s = origin (goal.at.returns-in-Err c).After-find_own_leaves-own in
    let a = s.args in
    let room = length a.out.now in
    let n = c.in-Err.refusal in
    let tangle = graph-refusal (links (ps (goal.at.returns-in-Err c).After-find_own_leaves-own)) c.find_own_leaves-own.result (graph_is (goal.at.returns-in-Err c).After-find_own_leaves-own) n c.in-Err.is in
    let told = refused-answer (adding a.text.now a.catalogue.now a.prefix.now a.fields.now room) a.out.now (record { number = n; line = record { 0 = 0 } })
    (add-tangled a.text.now a.catalogue.now (own s) a.prefix.now a.fields.now room (formed (goal.at.returns-in-Err c).Else-not-is_in_form) (prior (goal.at.returns-in-Err c).After-is_stray ∙ c.if-is_stray.false) n tangle.0 tangle.1) in
    record { answer = rw c.of_text-in-Err.ensures told.0; wrote = told.1 }

pub shared_ref_as_front-leaves : goal.shared_ref_as_front-leaves
shared_ref_as_front-leaves c =
    let e = (goal.at.shared_ref_as_front-leaves c).In-Ok in
    let f = (goal.at.In-Ok e).After-find_own_leaves-own in
    omega (arith, counted e, leaves-length (links (ps f)), links-count (ps f), (opens (origin f)).few)

pub add_after-requires : goal.add_after-requires
add_after-requires c =
    let s = start (goal.at.add_after-requires c).After-list_ids-count in
    let a = s.args in record {
      text_value = (opens s).accepted;
      reads_by = s.requires.reads_by;
      ids_in_text = ((lists (goal.at.add_after-requires c).After-list_ids-count).listed, (lists (goal.at.add_after-requires c).After-list_ids-count).are);
      fields_value = (
        (in-form a.prefix.now (given a.fields.now) (formed (goal.at.add_after-requires c).Else-not-is_in_form)).stop,
        c.is_linked-linked.ensures ∙ ap is_nothing c.find_previous-previous.ensures ∙ nothing-none (last_of 80 80 (given a.fields.now).fields),
      );
      leaves_value = (leaves-are (goal.at.add_after-requires c).In-Ok, some (goal.at.add_after-requires c).In-Ok);
    }

pub returns-in-Ok : goal.returns-in-Ok
returns-in-Ok c =
    let s = origin (goal.at.returns-in-Ok c).After-find_own_leaves-own in
    let a = s.args in
    let room = length a.out.now in
    let on : adding_on (records_of a.text.now) a.prefix.now (given a.fields.now).fields room ≡ adding a.text.now a.catalogue.now a.prefix.now a.fields.now room =
    sym (add-on a.text.now a.catalogue.now (own s) a.prefix.now a.fields.now room (formed (goal.at.returns-in-Ok c).Else-not-is_in_form) (prior (goal.at.returns-in-Ok c).After-is_stray ∙ c.if-is_stray.false) (untangled (goal.at.returns-in-Ok c).In-Ok)) in record {
      answer = c.add_after.ensures.answer ∙ ap answer_of on;
      wrote = c.add_after.ensures.wrote ∙ ap (λ x. output_of x a.out.now) on;
    }
