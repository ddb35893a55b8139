use Prim.Native.Nat.{◌≤◌}
use mathlib.Core.Path.{◌≡◌}
use lib.ListN.{length, take}
use Rattle.format.specs.Binary.{unpadded}
use Rattle.binary_parts.proofs.unpadded_len.Given as goal

abbrev pub invariant-loop-n : goal.invariant-loop-n
invariant-loop-n l = (l.n ≤ length l.run) × (unpadded l.run ≡ unpadded (take l.n l.run))
