-- `programs_by_table::find` meets its contract: 22, then 23, then the leaves and the depths.
use Prim.Native.Nat.{◌≤◌}
use mathlib.Core.Path.{sym, ◌∙◌}
use mathlib.Core.List.{List}
use lib.ListN.{length}
use Rattle.format.specs.Programs.{Program, programs}
use Rattle.accepted.specs.Read.{records_of}
use Rattle.program_parents.proofs.Own.{few-programs}
use Rattle.program_parents.proofs.Road.{lent-count, lent-inside, lent-few, lent-within}
use Rattle.programs_by_table.proofs.Finding.{found-dangling, found-cycle, found-leaves}
use Rattle.programs_by_table.proofs.find.Goals as goal
use Rattle.programs_by_table.proofs.find.Goals.{After-parents_of-parents}

-- the programs of the text, and that they are few
abbrev ps : After-parents_of-parents → List Program
ps f = programs (records_of f.args.text.now)

few : (f : After-parents_of-parents) → length (ps f) ≤ 1024
few f = few-programs f.args.text.now f.requires.text_value

pub returns-then-parents : goal.returns-then-parents
returns-then-parents c =
    let p = (goal.at.returns-then-parents c).After-parents_of-parents in
    found-dangling (ps p) (few p) c.parents_of-parents.result c.parents_of-parents.ensures c.if-parents.true c.nothing.result c.nothing.ensures

pub slice_bounds-list-end : goal.slice_bounds-list-end
slice_bounds-list-end c =
    let p = (goal.at.slice_bounds-list-end c).After-parents_of-parents in
    lent-inside (ps p) (few p) c.parents_of-parents.result c.parents_of-parents.ensures

pub slice_bounds-links-end : goal.slice_bounds-links-end
slice_bounds-links-end c =
    let p = (goal.at.slice_bounds-links-end c).After-parents_of-parents in
    lent-count (ps p) (few p) c.parents_of-parents.result c.parents_of-parents.ensures

pub find_depths-requires : goal.find_depths-requires
find_depths-requires c =
    let p = (goal.at.find_depths-requires c).After-parents_of-parents in
    record {
      parents_value = lent-within (ps p) (few p) c.parents_of-parents.result c.parents_of-parents.ensures c.if-parents.false;
      parents_len_bound = lent-few (ps p) (few p) c.parents_of-parents.result c.parents_of-parents.ensures;
    }

pub returns-in_default : goal.returns-in_default
returns-in_default c =
    let p = (goal.at.returns-in_default c).After-parents_of-parents in
    found-cycle (ps p) (few p) c.parents_of-parents.result c.parents_of-parents.ensures c.if-parents.false (sym c.in_default.is ∙ c.find_depths.ensures) c.nothing-in_default.result c.nothing-in_default.ensures

pub leaves-leaves-requires : goal.leaves-leaves-requires
leaves-leaves-requires c =
    let p = (goal.at.leaves-leaves-requires c).After-parents_of-parents in
    record {
      parents_value = lent-within (ps p) (few p) c.parents_of-parents.result c.parents_of-parents.ensures c.if-parents.false;
      parents_len_bound = lent-few (ps p) (few p) c.parents_of-parents.result c.parents_of-parents.ensures;
    }

pub returns : goal.returns
returns c =
    let p = (goal.at.returns c).After-parents_of-parents in
    found-leaves (ps p) (few p) c.parents_of-parents.result c.parents_of-parents.ensures c.if-parents.false c.in-Some.known (sym c.in-Some.is ∙ c.find_depths.ensures)
    c.leaves-leaves.result c.leaves-leaves.ensures
