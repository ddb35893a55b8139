use Prim.Native.Nat.{◌<◌}
use mathlib.Core.Path.{◌≡◌}
use lib.ListN.{length}
use Rattle.merge_hints.proofs.is_marked.Given as goal

abbrev pub invariant-loop : goal.invariant-loop
invariant-loop l = (l.p < l.n) × (l.n ≡ length l.area)
