-- `sha256::put_big` meets its contract: std's bytes are the number's, and they are written as one part.
use mathlib.Core.Path.{ap, ◌∙◌}
use native.Mathlib.Omega.{arith}
use lib.ListN.{length}
use Rattle.byte_slices.specs.Over.{over}
use Rattle.byte_slices.proofs.Over.{put_over}
use Rattle.sha256.proofs.Big.{big-four}
use Rattle.sha256.proofs.put_big.Goals as goal

pub returns : goal.returns
returns c =
    let a = c.args in
    let e = c.copy_from_slice.ensures.after ∙ c.to_be_bytes.ensures in
    put_over a.out.now _ a.at _ (omega (arith, ap length e)) ∙ ap (over a.out.now a.at) (e ∙ big-four a.v)
