use Prim.Native.Nat.{◌+◌, ◌*◌}
use mathlib.Core.Path.{◌≡◌}
use lib.ListN.{drop}
use Rattle.byte_slices.specs.Upto.{upto}
use Rattle.byte_slices.proofs.pass_blocks.Given as goal

abbrev pub invariant-loop-block : goal.invariant-loop-block
invariant-loop-block l = upto l.d l.s ≡ l.block * 16 + upto l.d (drop (l.block * 16) l.s)
