use Prim.Native.Nat.{ℕ, ◌+◌, ◌-◌, ◌≤◌}
use mathlib.Core.Path.{◌≡◌}
use mathlib.Core.List.{List, ◌++◌}
use lib.ListN.{length}
use Rattle.byte_slices.specs.Over.{over}
use Rattle.format.specs.Binary.{list_bytes}
use Rattle.binary_references.specs.Next.{sq_from}
use Rattle.binary_put.proofs.put_list.Given as goal

abbrev pub invariant-loop-r : goal.invariant-loop-r
invariant-loop-r l =
    (done : List ℕ)
    × (l.at ≤ length l.text)
    × (l.o ≡ l.start + length done)
    × (length l.out ≡ length l.initial.out)
    × (l.out ≡ over l.initial.out l.start done)
    × (list_bytes (sq_from l.strict l.text 0) ≡ done ++ list_bytes (sq_from l.strict l.text l.at))

abbrev pub decreases-loop-r : goal.decreases-loop-r
decreases-loop-r l = length l.text - l.at
