use Prim.Native.Nat.{◌+◌}
use mathlib.Core.Path.{◌≡◌}
use lib.ListN.{drop}
use Rattle.tidy_name.specs.Runs.{later_run, name_run}
use Rattle.tidy_name.proofs.name_len.Given as goal

abbrev pub invariant-loop-i : goal.invariant-loop-i
invariant-loop-i l = name_run l.s ≡ l.i + later_run (drop l.i l.s)
