use mathlib.Core.Path.{◌≡◌}
use lib.ListN.{drop}
use lib.Dec.{leb}
use Rattle.format.specs.Bytes.{any}
use Rattle.prune.proofs.has_high.Given as goal

abbrev pub invariant-loop-k : goal.invariant-loop-k
invariant-loop-k l = any (leb l.count) l.used ≡ any (leb l.count) (drop l.k-index l.used)
