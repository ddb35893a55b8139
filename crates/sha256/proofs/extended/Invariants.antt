use mathlib.Core.Path.{◌≡◌}
use lib.ListN.{length, take}
use Rattle.sha256.proofs.Schedule.{Extended}
use Rattle.sha256.proofs.extended.Given as goal

abbrev pub invariant-loop-t : goal.invariant-loop-t
invariant-loop-t l = (length l.w ≡ 64) × Extended (take 16 l.initial.w) l.w l.t
