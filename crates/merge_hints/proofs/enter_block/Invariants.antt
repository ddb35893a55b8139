use Prim.Native.Nat.{◌≤◌}
use mathlib.Core.Path.{◌≡◌}
use mathlib.Core.List.{List}
use lib.ListN.{length}
use Rattle.format.specs.References.{Reference}
use Rattle.merge_hints.specs.Hints.{Placed, Marked}
use Rattle.merge_hints.proofs.enter_block.Given as goal

abbrev pub invariant-loop : goal.invariant-loop
invariant-loop l =
    (l.at ≤ length l.b) × Placed l.b l.area × ((rs : List Reference) → Marked l.strict l.b rs l.initial.area → Marked l.strict l.b rs l.area) × (length l.area ≡ length l.initial.area)
