use Prim.Native.Nat.{◌<◌}
use mathlib.Core.Path.{◌≡◌}
use lib.ListN.{length}
use Rattle.merge_hints.proofs.mark_one.Given as goal

abbrev pub invariant-loop : goal.invariant-loop
invariant-loop l = (l.at < l.n) × (l.n ≡ length l.initial.area) × (l.area ≡ l.initial.area)
