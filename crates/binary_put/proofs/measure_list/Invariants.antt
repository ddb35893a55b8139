use Prim.Native.Nat.{◌+◌, ◌-◌, ◌*◌, ◌≤◌}
use mathlib.Core.Path.{◌≡◌}
use lib.ListN.{length}
use Rattle.format.specs.Binary.{list_bytes}
use Rattle.binary_references.specs.Next.{sq_from}
use Rattle.binary_put.proofs.measure_list.Given as goal

-- a reference has a byte of the text at least, and is no longer than the text
abbrev pub invariant-loop-r : goal.invariant-loop-r
invariant-loop-r l =
    (l.at ≤ length l.text)
    × (l.count ≤ l.at)
    × (l.bytes ≤ l.at * 16777225)
    × (length (sq_from l.strict l.text 0) ≡ l.count + length (sq_from l.strict l.text l.at))
    × (length (list_bytes (sq_from l.strict l.text 0)) ≡ l.bytes + length (list_bytes (sq_from l.strict l.text l.at)))

abbrev pub decreases-loop-r : goal.decreases-loop-r
decreases-loop-r l = length l.text - l.at
