-- `replay_prune::listed` meets its contract: what is written is within the list. Assumes nothing.
use mathlib.Core.Path.{refl, sym}
use native.Mathlib.Omega.{arith}
use lib.ListN.{length-set}
use lib.Seq.{length-take-le}
use Rattle.replay_prune.proofs.listed.Goals as goal

pub loop-i-init : goal.loop-i-init
loop-i-init c = (omega arith, omega arith, refl)

pub loop-i-preserved : goal.loop-i-preserved
loop-i-preserved c = (omega arith, omega arith, simp length-set (omega arith))

pub returns : goal.returns
returns c = let l = c.loop-i in (omega arith, sym (length-take-le _ l.list (omega arith)))
