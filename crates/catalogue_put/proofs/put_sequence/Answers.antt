-- `catalogue_put::put_sequence` meets its contract: the LN comes after the place of the name, and the line after the LN.
use Prim.Native.Nat.{◌+◌}
use mathlib.Core.Path.{ap, ◌∙◌}
use mathlib.Core.List.{◌∷◌, ◌++◌}
use native.Mathlib.Omega.{arith}
use Rattle.format.specs.Catalogue.{little}
use Rattle.byte_slices.specs.Over.{over}
use Rattle.byte_slices.proofs.Over.{over-over}
use Rattle.catalogue_entries.specs.Entries.{entry_bytes}
use Rattle.catalogue_put.proofs.put_sequence.Goals as goal

pub returns : goal.returns
unfolding little entry_bytes
returns c =
    let a = c.args in
    let place = 2 ∷ little 4 a.name.at ++ little 4 a.name.len in
    c.put_u32.ensures
    ∙ ap (λ o. over o (a.at + 17) (little 4 a.line))
    (c.put_u64.ensures
    ∙ ap (λ o. over o (a.at + 9) (little 8 a.n)) c.put_kind.ensures
    ∙ over-over a.out.now a.at place (little 8 a.n) (omega arith))
    ∙ over-over a.out.now a.at (place ++ little 8 a.n) (little 4 a.line) (omega arith)
