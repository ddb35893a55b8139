use Prim.Native.Nat.{◌-◌, ◌≤◌}
use mathlib.Core.Path.{◌≡◌}
use lib.ListN.{length, drop}
use Rattle.format.specs.Binary.{take_list}
use Rattle.binary_parts.specs.Parts.{is_whole}
use Rattle.binary_parts.proofs.is_whole_list.Given as goal

abbrev pub invariant-loop : goal.invariant-loop
invariant-loop l =
    (l.at ≤ length l.bytes)
    × (is_whole (take_list l.count (drop l.start l.bytes)) ≡ is_whole (take_list (l.count - l.counter) (drop l.at l.bytes)))
