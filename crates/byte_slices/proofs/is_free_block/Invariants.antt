use mathlib.Core.Path.{◌≡◌}
use lib.ListN.{drop}
use lib.Dec.{leb}
use Rattle.byte_slices.specs.Upto.{upto}
use Rattle.byte_slices.proofs.is_free_block.Given as goal

abbrev pub invariant-loop-i : goal.invariant-loop-i
invariant-loop-i l = l.free ≡ leb l.i (upto l.d (drop l.at l.s))
