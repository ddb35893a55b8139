use Prim.Native.Nat.{◌-◌}
use mathlib.Core.Path.{◌≡◌}
use lib.ListN.{length}
use Rattle.format.specs.Catalogue.{catalogue}
use Rattle.byte_slices.specs.Over.{over}
use Rattle.read.proofs.Walking.{Walking}
use Rattle.read.proofs.put_catalogue.Given as goal

abbrev pub invariant-loop-at : goal.invariant-loop-at
invariant-loop-at l =
    (w : Walking l.strict l.text l.at) × (l.o ≡ length (catalogue w.done)) × (l.out ≡ over l.initial.out 0 (catalogue w.done)) × (length l.out ≡ length l.initial.out) × (l.line ≡ length w.done)

abbrev pub decreases-loop-at : goal.decreases-loop-at
decreases-loop-at l = length l.text - l.at
