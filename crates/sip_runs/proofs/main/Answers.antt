-- `sip_runs::main` is safe: each message is within the 64 bytes. Assumes nothing.
use mathlib.Core.Path.{refl, sym}
use native.Mathlib.Omega.{arith}
use lib.ListN.{length-set}
use lib.Seq.{length-take-le}
use Rattle.sip_runs.proofs.main.Goals as goal

pub loop-i-init : goal.loop-i-init
loop-i-init c = refl

pub slice_bounds-show-end : goal.slice_bounds-show-end
slice_bounds-show-end c = sym (length-take-le _ _ (omega arith))

pub loop-i-preserved : goal.loop-i-preserved
loop-i-preserved c = simp length-set (omega arith)
