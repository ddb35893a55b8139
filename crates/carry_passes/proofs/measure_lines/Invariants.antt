use Prim.Native.Nat.{◌+◌, ◌-◌}
use mathlib.Core.Path.{◌≡◌}
use lib.ListN.{length, drop}
use Rattle.format.specs.declared.Kind.{Kind}
use Rattle.tidy_sizes.specs.Numbers.{get}
use Rattle.tidy_text.proofs.Total.{size}
use Rattle.format.specs.Carrying.{kept_of, unwritable_line}
use Rattle.carry_lines.specs.Going.{Going}
use Rattle.carry_passes.specs.From.{lines_kept_from, kept_from}
use Rattle.carry_passes.proofs.measure_lines.Given as goal

abbrev pub invariant-loop-c : goal.invariant-loop-c
invariant-loop-c l =
    Going l.b.strict l.text l.b.at l.area l.ids l.c
    × (unwritable_line l.b.line (lines_kept_from l.text l.b) ≡ unwritable_line (l.b.line + l.c.line) (drop l.c.line (lines_kept_from l.text l.b)))
    × ((k : Kind) → get k l.sizes + size k (kept_of (drop l.c.line (lines_kept_from l.text l.b))) ≡ size k (kept_from l.text l.b))
    × (length l.area ≡ length l.initial.area)
    × (length l.ids ≡ length l.initial.ids)

abbrev pub decreases-loop-c : goal.decreases-loop-c
decreases-loop-c l = length l.text - l.c.at
