use mathlib.Core.Path.{◌≡◌}
use lib.ListN.{drop}
use lib.Dec.{eqb}
use Rattle.format.specs.Bytes.{all}
use Rattle.replay_cases.proofs.is_untouched.Given as goal

abbrev pub invariant-loop-i : goal.invariant-loop-i
invariant-loop-i l = all (eqb 165) l.kept ≡ all (eqb 165) (drop l.i l.kept)
