use Prim.Native.Nat.{◌-◌, ◌≤◌}
use mathlib.Core.Path.{◌≡◌}
use mathlib.Core.Bool.{true}
use lib.ListN.{length, drop}
use Rattle.format.specs.Binary.{take_list}
use Rattle.binary_parts.specs.Parts.{is_whole}
use Rattle.binary_same.proofs.NextReference.{alike_from}
use Rattle.binary_same.proofs.is_sq_list.Given as goal

abbrev pub invariant-loop : goal.invariant-loop
invariant-loop l =
    (l.at ≤ length l.bytes)
    × (l.line ≤ length l.text)
    × (is_whole (take_list (l.count - l.counter) (drop l.at l.bytes)) ≡ true)
    × (alike_from l.bytes l.text l.strict l.list l.count 0 ≡ alike_from l.bytes l.text l.strict l.at (l.count - l.counter) l.line)
