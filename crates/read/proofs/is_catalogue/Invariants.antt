use Prim.Native.Nat.{◌-◌}
use mathlib.Core.Path.{◌≡◌}
use lib.ListN.{length}
use Rattle.catalogue_lines.specs.Matched.{Reached}
use Rattle.read.proofs.Walking.{Walking}
use Rattle.read.proofs.is_catalogue.Given as goal

abbrev pub invariant-loop-at : goal.invariant-loop-at
invariant-loop-at l = (w : Walking l.strict l.text l.at) × Reached l.kept w.done l.o × (l.line ≡ length w.done)

abbrev pub decreases-loop-at : goal.decreases-loop-at
decreases-loop-at l = length l.text - l.at
