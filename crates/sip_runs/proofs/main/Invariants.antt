use mathlib.Core.Path.{◌≡◌}
use lib.ListN.{length}
use Rattle.sip_runs.proofs.main.Given as goal

abbrev pub invariant-loop-i : goal.invariant-loop-i
invariant-loop-i l = length l.message ≡ 64
