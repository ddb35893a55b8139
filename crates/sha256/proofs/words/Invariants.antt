use mathlib.Core.Path.{◌≡◌}
use lib.ListN.{length}
use Rattle.sha256.proofs.Parsed.{Read}
use Rattle.sha256.proofs.words.Given as goal

abbrev pub invariant-loop-i : goal.invariant-loop-i
invariant-loop-i l = (length l.w ≡ 64) × Read l.s l.at l.w l.i
