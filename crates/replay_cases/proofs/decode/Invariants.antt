use mathlib.Core.Path.{◌≡◌}
use lib.ListN.{length}
use lib.Seq.{paste}
use Rattle.replay_cases.specs.Cases.{decoded}
use Rattle.replay_cases.proofs.decode.Given as goal

abbrev pub invariant-loop-i : goal.invariant-loop-i
invariant-loop-i l = (length l.text ≡ length l.initial.text) × (l.text ≡ paste l.initial.text 0 (decoded l.hex) l.i)
