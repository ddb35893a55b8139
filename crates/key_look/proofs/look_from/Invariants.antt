use Prim.Native.Nat.{ℕ, ◌+◌, ◌%◌, ◌<◌}
use mathlib.Core.Path.{◌≡◌}
use lib.ListN.{length, drop}
use Rattle.format.specs.Slots.{around}
use Rattle.key_look.specs.Sought.{tells_print, look_along, looks_along, sought_from, looks_from}
use Rattle.key_look.proofs.look_from.Given as goal

abbrev pub invariant-loop-passed : goal.invariant-loop-passed
invariant-loop-passed l =
    let s : ℕ = l.number % length l.area in
    (s < length l.area) × (l.at < length l.area) × (l.at ≡ (s + l.passed) % length l.area) × (sought_from l.text l.area l.number l.print l.id ≡ look_along (tells_print l.text l.print l.id) (length l.area) l.at (drop l.passed (around s l.area))) × (looks_from l.text l.area l.number l.print l.id ≡ l.passed + looks_along (tells_print l.text l.print l.id) (drop l.passed (around s l.area)))
