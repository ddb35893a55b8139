-- `catalogue_put::put_kind` meets its contract: a byte, and two numbers after it.
use mathlib.Core.Path.{◌∙◌}
use mathlib.Core.List.{◌++◌}
use native.Mathlib.Omega.{arith}
use lib.ListN.{length-set}
use Rattle.format.specs.Catalogue.{little}
use Rattle.catalogue_put.proofs.Stores.{one_then}
use Rattle.catalogue_put.proofs.put_kind.Goals as goal

pub put_numbers-requires : goal.put_numbers-requires
put_numbers-requires c = simp length-set (omega arith)

pub shape_of-out : goal.shape_of-out
shape_of-out c = c.put_numbers.auto.out ∙ simp length-set

pub returns : goal.returns
unfolding little
returns c =
    let a = c.args in
    c.put_numbers.ensures ∙ one_then a.out.now a.at (little 4 a.a ++ little 4 a.b) a.kind (omega arith)
