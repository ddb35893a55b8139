-- `little_endian::put_u32` meets its contract: std's bytes are the number's, whatever term the number has, and they are written as one part.
use mathlib.Core.Path.{ap, ◌∙◌}
use native.Mathlib.Omega.{arith}
use lib.ListN.{length}
use Rattle.format.specs.Catalogue.{little}
use Rattle.byte_slices.specs.Over.{over}
use Rattle.byte_slices.proofs.Over.{put_over}
use Rattle.little_endian.proofs.Little.{le-four}
use Rattle.little_endian.proofs.put_u32.Goals as goal

pub returns : goal.returns
returns c =
    let a = c.args in
    let e = c.copy_from_slice.ensures.after ∙ c.to_le_bytes.ensures in
    put_over a.out.now _ a.at _ (omega (arith, ap length e)) ∙ ap (over a.out.now a.at) (e ∙ le-four _ ∙ ap (little 4) (omega arith))
