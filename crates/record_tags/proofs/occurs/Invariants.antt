use mathlib.Core.Path.{◌≡◌}
use mathlib.Core.Bool.{false}
use lib.ListN.{drop}
use Rattle.record_tags.specs.Occurs.{occurs}
use Rattle.record_tags.proofs.occurs.Given as goal

abbrev pub invariant-loop-i : goal.invariant-loop-i
invariant-loop-i l = occurs l.a l.b (drop l.i l.src) ≡ false
