-- `catalogue_put::put_lined` meets its contract: the line comes after the two numbers.
use Prim.Native.Nat.{◌+◌}
use mathlib.Core.Path.{ap, ◌∙◌}
use mathlib.Core.List.{◌∷◌, ◌++◌}
use native.Mathlib.Omega.{arith}
use Rattle.format.specs.Catalogue.{little}
use Rattle.byte_slices.specs.Over.{over}
use Rattle.byte_slices.proofs.Over.{over-over}
use Rattle.catalogue_put.proofs.put_lined.Goals as goal

pub returns : goal.returns
unfolding little
returns c =
    let a = c.args in
    c.put_u32.ensures
    ∙ ap (λ o. over o (a.at + 9) (little 4 a.line)) c.put_kind.ensures
    ∙ over-over a.out.now a.at (a.kind ∷ little 4 a.a ++ little 4 a.b) (little 4 a.line) (omega arith)
