-- `programs::roots` meets its contract: reading, 21, 20, then the programs without PP.
use mathlib.Core.Path.{◌≡◌, sym, ap, ◌∙◌}
use mathlib.Core.List.{List}
use lib.ListN.{length}
use Rattle.std.proofs.lemmas.Result.{err_from_is_err_and}
use Rattle.format.specs.Programs.{Program, programs, links, roots}
use Rattle.format.specs.Calls.{fitting, rooting}
use Rattle.accepted.specs.Read.{records_of}
use Rattle.program_chains.specs.Parents.{in_array}
use Rattle.program_chains.proofs.Arrays.{front, front-count, front-inside}
use Rattle.program_parents.proofs.Road.{lent-count, lent-inside, lent-few, lent-roots}
use Rattle.read.specs.Answers.{answer_of, output_of}
use Rattle.read.proofs.AnswerCases.{refused-answer}
use Rattle.read.proofs.Fresh.{Current, refused-by, fresh-by}
use Rattle.program_parents.proofs.Opened.{Opened, opened}
use Rattle.programs.proofs.Chained.{roots-refused, rooted}
use Rattle.programs.proofs.roots.Goals as goal
use Rattle.programs.proofs.roots.Goals.{After-parents_of-parents, After-roots-found, In_ok-check}

-- the catalogue is the text's own
own : (c : In_ok-check) → let a = c.args in Current a.text.now a.catalogue.now
own c = let a = c.args in fresh-by a.text.now a.catalogue.now c.check.ensures c.in_ok-check.was

opens : (c : In_ok-check) → let a = c.args in Opened a.text.now a.catalogue.now
opens c = let a = c.args in opened a.text.now a.catalogue.now (own c).reads (own c).own

pub parents_of-parents-requires : goal.parents_of-parents-requires
parents_of-parents-requires c = record {
  text_value = (opens c).accepted;
  catalogue_value = (own c).own;
}

-- the programs of the text
abbrev ps : After-parents_of-parents → List Program
ps c = programs (records_of c.args.text.now)

pub slice_bounds-list-end : goal.slice_bounds-list-end
slice_bounds-list-end c = lent-inside (ps (goal.at.slice_bounds-list-end c).After-parents_of-parents) (opens (goal.at.slice_bounds-list-end c).In_ok-check).few c.parents_of-parents.result c.parents_of-parents.ensures

pub slice_bounds-roots-end : goal.slice_bounds-roots-end
slice_bounds-roots-end c = lent-count (ps (goal.at.slice_bounds-roots-end c).After-parents_of-parents) (opens (goal.at.slice_bounds-roots-end c).In_ok-check).few c.parents_of-parents.result c.parents_of-parents.ensures

pub roots-found-requires : goal.roots-found-requires
roots-found-requires c = lent-few (ps (goal.at.roots-found-requires c).After-parents_of-parents) (opens (goal.at.roots-found-requires c).In_ok-check).few c.parents_of-parents.result c.parents_of-parents.ensures

-- what is found: the roots in an array
found : (c : After-roots-found) → let xs = roots (links (ps (goal.at.After-roots-found c).After-parents_of-parents)) in (c.roots-found.result.list ≡ in_array xs) × (c.roots-found.result.count ≡ length xs)
found c =
    let l = lent-roots (ps (goal.at.After-roots-found c).After-parents_of-parents) (opens (goal.at.After-roots-found c).In_ok-check).few c.parents_of-parents.result c.parents_of-parents.ensures in
    (c.roots-found.ensures.0 ∙ ap in_array l, c.roots-found.ensures.1 ∙ ap length l)

pub slice_bounds-ordinals-end : goal.slice_bounds-ordinals-end
slice_bounds-ordinals-end c = let p = (goal.at.slice_bounds-ordinals-end c).After-roots-found in front-inside (roots (links (ps (goal.at.slice_bounds-ordinals-end c).After-parents_of-parents))) c.roots-found.result.list c.roots-found.result.count (found p).0 (found p).1

pub slice_bounds-put_ordinals-end : goal.slice_bounds-put_ordinals-end
slice_bounds-put_ordinals-end c = let p = (goal.at.slice_bounds-put_ordinals-end c).After-roots-found in front-count (roots (links (ps (goal.at.slice_bounds-put_ordinals-end c).After-parents_of-parents))) c.roots-found.result.list c.roots-found.result.count (found p).0 (found p).1

pub returns-in_err-check : goal.returns-in_err-check
returns-in_err-check c =
    let a = c.args in
    let room = length a.out.now in
    let r = c.in_err-check.field-0.0 in
    let p = err_from_is_err_and c.from_residual.result c.from_residual.ensures.1 in
    let told = refused-answer (rooting a.text.now a.catalogue.now room) a.out.now r
    (roots-refused a.text.now a.catalogue.now r.number r.line.0 (refused-by a.text.now a.catalogue.now c.check.ensures r c.in_err-check.was) room) in
    record { answer = rw (p.1, p.2) told.0; wrote = told.1 }

pub returns : goal.returns
returns c =
    let p = (goal.at.returns c).After-roots-found in
    let a = c.args in
    let room = length a.out.now in
    let xs = roots (links (ps (goal.at.returns c).After-parents_of-parents)) in
    let is =
    ap (fitting room) (front xs c.roots-found.result.list c.roots-found.result.count (found p).0 (found p).1) ∙ sym (rooted a.text.now a.catalogue.now (own (goal.at.returns c).In_ok-check) room) in record {
      answer = c.put_ordinals.ensures.answer ∙ ap answer_of is;
      wrote = c.put_ordinals.ensures.wrote ∙ ap (λ x. output_of x a.out.now) is;
    }
