-- `binary_out::put_front` meets its contract: the length comes after the magic bytes.
use mathlib.Core.Path.{ap, ◌∙◌}
use native.Mathlib.Omega.{arith}
use Rattle.format.specs.Catalogue.{little}
use Rattle.byte_slices.specs.Over.{over}
use Rattle.byte_slices.proofs.Over.{over-over}
use Rattle.format.specs.Binary.{magic}
use Rattle.binary_out.proofs.put_front.Goals as goal

pub returns : goal.returns
unfolding magic little
returns c =
    let a = c.args in
    c.put_u32.ensures ∙ ap (λ o. over o 4 (little 4 a.n)) c.put_bytes.ensures ∙ over-over a.out.now 0 magic (little 4 a.n) (omega (arith, c.requires.in_bounds))
