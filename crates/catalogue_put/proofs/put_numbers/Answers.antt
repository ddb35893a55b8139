-- `catalogue_put::put_numbers` meets its contract: the second number comes after the first.
use Prim.Native.Nat.{◌+◌}
use mathlib.Core.Path.{ap, ◌∙◌}
use native.Mathlib.Omega.{arith}
use Rattle.format.specs.Catalogue.{little}
use Rattle.byte_slices.specs.Over.{over}
use Rattle.byte_slices.proofs.Over.{over-over}
use Rattle.catalogue_put.proofs.put_numbers.Goals as goal

pub returns : goal.returns
unfolding little
returns c =
    let a = c.args in
    c.put_u32-2.ensures
    ∙ ap (λ o. over o (a.at + 4) (little 4 a.b)) c.put_u32.ensures
    ∙ over-over a.out.now a.at (little 4 a.a) (little 4 a.b) (omega arith)
