use Prim.Native.Nat.{◌+◌}
use mathlib.Core.Path.{◌≡◌}
use lib.ListN.{drop}
use Rattle.byte_slices.specs.Upto.{upto}
use Rattle.byte_slices.proofs.upto.Given as goal

abbrev pub invariant-loop-i : goal.invariant-loop-i
invariant-loop-i l = upto l.d l.s ≡ l.i + upto l.d (drop l.i l.s)
