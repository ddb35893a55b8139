-- `programs::leaves` meets its contract: reading, 21, 22, 23, 20, then the leaves and the hops.
use Prim.Native.Nat.{ℕ}
use mathlib.Core.Path.{◌≡◌, sym, ap, ◌∙◌}
use mathlib.Core.Bool.{false}
use mathlib.Core.List.{List}
use native.Mathlib.Omega.{arith}
use lib.ListN.{length, take}
use Rattle.std.proofs.lemmas.Result.{err_from_is_err_and}
use Rattle.format.specs.Programs.{Program, programs, links, tangled, leaves, hops}
use Rattle.format.specs.Calls.{then, fitting, leafing, yes}
use Rattle.accepted.specs.Read.{records_of}
use Rattle.program_chains.specs.Parents.{in_array}
use Rattle.program_chains.proofs.Arrays.{front, front-inside}
use Rattle.program_parents.specs.Parents.{graph_of}
use Rattle.program_parents.proofs.Road.{lent-most, lent-within, lent-links, road-untangled, graph-refusal, graph-untangled, graph-list, graph-count}
use Rattle.read.specs.Answers.{answer_of, output_of}
use Rattle.programs.specs.Answers.{leaves_answer_of, list_of, with_hops}
use Rattle.read.proofs.Fresh.{Current, refused-by, fresh-by}
use Rattle.program_parents.proofs.Opened.{Opened, opened}
use Rattle.programs.proofs.Chained.{leaves-refused, leaves-tangled, leaves-own, refused-leaves, written-leaves}
use Rattle.programs.proofs.leaves.Goals as goal
use Rattle.programs.proofs.leaves.Goals.{After-find_leaves, After-hops-hops, In_ok-check, In-Ok}

-- the catalogue is the text's own
own : (c : In_ok-check) → let a = c.args in Current a.text.now a.catalogue.now
own c = let a = c.args in fresh-by a.text.now a.catalogue.now c.check.ensures c.in_ok-check.was

opens : (c : In_ok-check) → let a = c.args in Opened a.text.now a.catalogue.now
opens c = let a = c.args in opened a.text.now a.catalogue.now (own c).reads (own c).own

pub returns-in_err-check : goal.returns-in_err-check
returns-in_err-check c =
    let a = c.args in
    let room = length a.out.now in
    let r = c.in_err-check.field-0.0 in
    let p = err_from_is_err_and c.from_residual.result c.from_residual.ensures.1 in
    let told = refused-leaves (leafing a.text.now a.catalogue.now room) a.out.now r
    (leaves-refused a.text.now a.catalogue.now r.number r.line.0 (refused-by a.text.now a.catalogue.now c.check.ensures r c.in_err-check.was) room) in
    record { answer = rw (p.1, p.2) told.0; wrote = told.1 }

pub parents_of-parents-requires : goal.parents_of-parents-requires
parents_of-parents-requires c = record {
  text_value = (opens (goal.at.parents_of-parents-requires c).In_ok-check).accepted;
  catalogue_value = (own (goal.at.parents_of-parents-requires c).In_ok-check).own;
}

pub find_leaves-requires : goal.find_leaves-requires
find_leaves-requires c = record {
  ps = programs (records_of c.args.text.now);
  few = (opens (goal.at.find_leaves-requires c).In_ok-check).few;
  is = c.parents_of-parents.ensures;
}

-- the programs of the text
abbrev ps : After-find_leaves → List Program
ps c = programs (records_of c.args.text.now)

-- what is found along their parents
graph_is : (c : After-find_leaves) → c.find_leaves.result ≡ graph_of (links (ps c))
graph_is c = c.find_leaves.ensures (ps c) (opens (goal.at.After-find_leaves c).In_ok-check).few c.parents_of-parents.ensures

pub returns-in-Err : goal.returns-in-Err
returns-in-Err c =
    let p = (goal.at.returns-in-Err c).After-find_leaves in
    let a = c.args in
    let room = length a.out.now in
    let n = c.in-Err.number in
    let tangle = graph-refusal (links (ps p)) c.find_leaves.result (graph_is p) n c.in-Err.is in
    let told = refused-leaves (leafing a.text.now a.catalogue.now room) a.out.now (record { number = n; line = record { 0 = 0 } })
    (leaves-tangled a.text.now a.catalogue.now (own (goal.at.returns-in-Err c).In_ok-check) room n tangle.0 tangle.1) in
    record { answer = rw c.of_text.ensures told.0; wrote = told.1 }

-- nothing is tangled
untangled : (e : In-Ok) → tangled (links (ps (goal.at.In-Ok e).After-find_leaves)) ≡ 0
untangled e = graph-untangled (links (ps (goal.at.In-Ok e).After-find_leaves)) e.find_leaves.result (graph_is (goal.at.In-Ok e).After-find_leaves) e.in-Ok.found e.in-Ok.is

undangled : (e : In-Ok) → e.parents_of-parents.result.dangling ≡ false
undangled e = road-untangled (ps (goal.at.In-Ok e).After-find_leaves) (opens (goal.at.In-Ok e).In_ok-check).few e.parents_of-parents.result e.parents_of-parents.ensures (untangled e)

abbrev xs : (e : In-Ok) → List ℕ
xs e = leaves (links (ps (goal.at.In-Ok e).After-find_leaves))

listed : (e : In-Ok) → e.in-Ok.found.list ≡ in_array (xs e)
listed e = graph-list (links (ps (goal.at.In-Ok e).After-find_leaves)) e.find_leaves.result (graph_is (goal.at.In-Ok e).After-find_leaves) e.in-Ok.found e.in-Ok.is

counted : (e : In-Ok) → e.in-Ok.found.count ≡ length (xs e)
counted e = graph-count (links (ps (goal.at.In-Ok e).After-find_leaves)) e.find_leaves.result (graph_is (goal.at.In-Ok e).After-find_leaves) e.in-Ok.found e.in-Ok.is

pub shared_ref_as_front-hops : goal.shared_ref_as_front-hops
shared_ref_as_front-hops c =
    let p = (goal.at.shared_ref_as_front-hops c).After-find_leaves in
    lent-most (ps p) (opens (goal.at.shared_ref_as_front-hops c).In_ok-check).few c.parents_of-parents.result c.parents_of-parents.ensures

pub hops-hops-requires-clause-parents_value : goal.hops-hops-requires-clause-parents_value
hops-hops-requires-clause-parents_value c =
    let p = (goal.at.hops-hops-requires-clause-parents_value c).After-find_leaves in
    lent-within (ps p) (opens (goal.at.hops-hops-requires-clause-parents_value c).In_ok-check).few c.parents_of-parents.result c.parents_of-parents.ensures (undangled (goal.at.hops-hops-requires-clause-parents_value c).In-Ok)

pub shared_ref_as_front-put_ordinals : goal.shared_ref_as_front-put_ordinals
shared_ref_as_front-put_ordinals c =
    let e = (goal.at.shared_ref_as_front-put_ordinals c).In-Ok in
    omega (arith, front-inside (xs e) c.in-Ok.found.list c.in-Ok.found.count (listed e) (counted e))

-- what is fitted into the output, with the hops that are counted, is what is answered
told : (e : After-hops-hops)
    → let a = e.args in
    let room = length a.out.now in
    let w = (goal.at.After-hops-hops e).In-Ok in
    (with_hops (answer_of (fitting room (xs w))) e.hops-hops.result ≡ leaves_answer_of (leafing a.text.now a.catalogue.now room))
    × (output_of (fitting room (xs w)) a.out.now ≡ output_of (list_of (leafing a.text.now a.catalogue.now room)) a.out.now)
told e =
    let o = (goal.at.After-hops-hops e).After-find_leaves in
    let w = (goal.at.After-hops-hops e).In-Ok in
    let p = (goal.at.After-hops-hops e).In_ok-check in
    let a = e.args in
    let room = length a.out.now in
    let sum = e.hops-hops.ensures ∙ ap hops (lent-links (ps o) (opens p).few e.parents_of-parents.result e.parents_of-parents.ensures (undangled w)) in
    written-leaves e.hops-hops.result (leafing a.text.now a.catalogue.now room) room (xs w) a.out.now
    (leaves-own a.text.now a.catalogue.now (own p) room (untangled w) ∙ ap (λ k. then (fitting room (xs w)) (λ ys. yes (ys, k))) (sym sum))

found : (e : In-Ok) → take e.in-Ok.found.count e.in-Ok.found.list ≡ xs e
found e = front (xs e) e.in-Ok.found.list e.in-Ok.found.count (listed e) (counted e)

pub returns-in_err-leaves : goal.returns-in_err-leaves
unfolding with_hops
returns-in_err-leaves c =
    let e = (goal.at.returns-in_err-leaves c).After-hops-hops in
    let w = (goal.at.returns-in_err-leaves c).In-Ok in
    let a = c.args in
    let room = length a.out.now in
    let p = err_from_is_err_and c.from_residual-in_err-leaves.result c.from_residual-in_err-leaves.ensures.1 in
    record {
      answer = rw (p.1, p.2) (ap (λ x. with_hops x c.hops-hops.result) (c.in_err-leaves.ensures.answer ∙ ap (λ ys. answer_of (fitting room ys)) (found w)) ∙ (told e).0);
      wrote = c.in_err-leaves.ensures.wrote ∙ ap (λ ys. output_of (fitting room ys) a.out.now) (found w) ∙ (told e).1;
    }

pub returns : goal.returns
unfolding with_hops
returns c =
    let e = (goal.at.returns c).After-hops-hops in
    let w = (goal.at.returns c).In-Ok in
    let a = c.args in
    let room = length a.out.now in
    record {
      answer = ap (λ x. with_hops x c.hops-hops.result) (c.in_ok-leaves.ensures.answer ∙ ap (λ ys. answer_of (fitting room ys)) (found w)) ∙ (told e).0;
      wrote = c.in_ok-leaves.ensures.wrote ∙ ap (λ ys. output_of (fitting room ys) a.out.now) (found w) ∙ (told e).1;
    }
