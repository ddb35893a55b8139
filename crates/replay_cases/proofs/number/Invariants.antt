use Prim.Native.Nat.{◌<◌}
use mathlib.Core.Path.{◌≡◌}
use lib.ListN.{drop}
use Rattle.replay_cases.specs.Cases.{number_from}
use Rattle.replay_cases.proofs.number.Given as goal

abbrev pub invariant-loop-b : goal.invariant-loop-b
invariant-loop-b l = (l.n < 10000000016) × (number_from 0 l.s ≡ number_from l.n (drop l.b-index l.s))
