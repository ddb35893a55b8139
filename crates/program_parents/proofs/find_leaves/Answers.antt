-- `program_parents::find_leaves` meets its contract: 22 and 23, and then the leaves.
use mathlib.Core.Path.{ap, ◌∙◌}
use Rattle.program_chains.specs.declared.Ordinals.{Ordinals}
use Rattle.std.specs.Prelude.{Ok}
use Rattle.std.proofs.lemmas.Result.{err_from_is_err_and}
use Rattle.format.specs.Programs.{links, leaves}
use Rattle.program_parents.specs.Parents.{graph_of, ordinals_of}
use Rattle.program_parents.proofs.Road.{lent-most, lent-within, road-leaves, road-untangled, ok-untangled, err-tangled, unless-ok, unless-err}
use Rattle.program_parents.proofs.find_leaves.Goals as goal

pub returns-in_err-tangle : goal.returns-in_err-tangle
unfolding graph_of
returns-in_err-tangle c = λ ps few is.
    let n = c.in_err-tangle.field-0.0 in
    let told = err-tangled (links ps) tt c.tangle.result (c.tangle.ensures ps few is) n c.in_err-tangle.was in
    let p = err_from_is_err_and c.from_residual.result c.from_residual.ensures.1 in
    rw (p.1, p.2) (unless-err (links ps) (ordinals_of (leaves (links ps))) n told.0 told.1)

pub shared_ref_as_front-leaves : goal.shared_ref_as_front-leaves
shared_ref_as_front-leaves c =
    lent-most c.requires.ps c.requires.few c.args.parents.now c.requires.is

pub leaves-requires-clause-parents_value : goal.leaves-requires-clause-parents_value
leaves-requires-clause-parents_value c =
    let p = c.requires in
    let z = (ok-untangled (links p.ps) tt c.tangle.result (c.tangle.ensures p.ps p.few p.is) tt c.in_ok-tangle.was).0 in
    lent-within p.ps p.few c.args.parents.now p.is (road-untangled p.ps p.few c.args.parents.now p.is z)

pub returns : goal.returns
unfolding graph_of
returns c = λ ps few is.
    let q = c.args.parents.now in
    let z = (ok-untangled (links ps) tt c.tangle.result (c.tangle.ensures ps few is) tt c.in_ok-tangle.was).0 in
    ap (λ (xs : Ordinals). Ok xs) (road-leaves ps few q is (road-untangled ps few q is z) c.leaves.result c.leaves.ensures)
    ∙ unless-ok (links ps) (ordinals_of (leaves (links ps))) z
