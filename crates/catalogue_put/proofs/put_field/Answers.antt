-- `catalogue_put::put_field` meets its contract: three bytes, and two numbers after them.
use mathlib.Core.Path.{◌∙◌}
use mathlib.Core.List.{◌++◌}
use native.Mathlib.Omega.{arith}
use lib.ListN.{length-set}
use Rattle.format.specs.Catalogue.{little}
use Rattle.catalogue_entries.specs.Entries.{entry_bytes}
use Rattle.catalogue_put.proofs.Stores.{three-then}
use Rattle.catalogue_put.proofs.put_field.Goals as goal

pub bounds-out-at-2 : goal.bounds-out-at-2
bounds-out-at-2 c = simp length-set (omega arith)

pub bounds-out-at-3 : goal.bounds-out-at-3
bounds-out-at-3 c = simp length-set (omega arith)

pub put_numbers-requires : goal.put_numbers-requires
put_numbers-requires c = simp length-set (omega arith)

pub shape_of-out : goal.shape_of-out
shape_of-out c = c.put_numbers.auto.out ∙ simp length-set

pub returns : goal.returns
unfolding little entry_bytes
returns c =
    let a = c.args in
    let p = c.args.value in
    c.put_numbers.ensures ∙ three-then a.out.now a.at (little 4 p.at ++ little 4 p.len) 6 a.a a.b (omega arith)
