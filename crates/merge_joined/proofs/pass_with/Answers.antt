-- `merge_joined::pass_with` meets its contract: slots of zeros are empty.
use Rattle.binary_references.specs.Next.{sq_from}
use Rattle.merge_hints.proofs.Laws.{placed-none, marked-none}
use Rattle.merge_joined.proofs.pass_with.Goals as goal

pub pass_by-requires-clause-placed : goal.pass_by-requires-clause-placed
pass_by-requires-clause-placed g c =
    let a = c.args in
    (placed-none a.b.now g.row.N, marked-none a.of.b a.b.now (sq_from a.of.a a.a.now 0) g.row.N)
