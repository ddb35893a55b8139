use mathlib.Core.Path.{◌≡◌}
use lib.ListN.{length}
use Rattle.replay_merged.proofs.put_list.Given as goal

abbrev pub invariant-loop-i : goal.invariant-loop-i
invariant-loop-i l = length l.list ≡ length l.initial.list
