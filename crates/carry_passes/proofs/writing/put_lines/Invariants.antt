use Prim.Native.Nat.{ℕ, ◌+◌, ◌-◌, ◌*◌, ◌≤◌}
use mathlib.Core.Path.{◌≡◌}
use mathlib.Core.List.{List}
use lib.ListN.{length, drop}
use Rattle.format.specs.Records.{Line}
use Rattle.byte_slices.specs.Over.{over}
use Rattle.tidy_text.specs.Placed.{with_parts, parts, Apart}
use Rattle.format.specs.Carrying.{kept_of, skips, rows}
use Rattle.carry_early.specs.declared.Begin.{Begin}
use Rattle.carry_lines.specs.Going.{Going}
use Rattle.carry_passes.specs.From.{lines_kept_from, kept_from, rows_of}
use Rattle.carry_passes.specs.Steps.{rows_before}
use Rattle.carry_passes.proofs.writing.put_lines.Given as goal

-- the lines still to come, and their rows
abbrev pub ahead : List ℕ → Begin → ℕ → List Line
ahead t b n = drop n (lines_kept_from t b)

abbrev pub to_come : List ℕ → Begin → ℕ → List ℕ
to_come t b n = rows (skips (b.line + n) (ahead t b n))

abbrev pub invariant-loop-c : goal.invariant-loop-c
invariant-loop-c l =
    Going l.b.strict l.text l.b.at l.area l.ids l.c
    × Apart (parts l.next (kept_of (ahead l.text l.b l.c.line))) (length l.out)
    × (with_parts l.out (parts l.next (kept_of (ahead l.text l.b l.c.line))) ≡ with_parts l.initial.out (parts l.initial.next (kept_from l.text l.b)))
    × (rows_before l.b l.c * 2 + length (to_come l.text l.b l.c.line) ≤ length l.table)
    × (over l.table (rows_before l.b l.c * 2) (to_come l.text l.b l.c.line) ≡ over l.initial.table (l.b.line * 2) (rows_of l.text l.b))
    × (length l.area ≡ length l.initial.area)
    × (length l.ids ≡ length l.initial.ids)
    × (length l.out ≡ length l.initial.out)
    × (length l.table ≡ length l.initial.table)

abbrev pub decreases-loop-c : goal.decreases-loop-c
decreases-loop-c l = length l.text - l.c.at
