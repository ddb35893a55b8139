use Prim.Native.Nat.{ℕ, ◌+◌, ◌-◌, ◌*◌, ◌≤◌}
use mathlib.Core.Path.{◌≡◌}
use mathlib.Core.List.{List}
use lib.ListN.{length, drop}
use Rattle.byte_slices.specs.Over.{over}
use Rattle.format.specs.Carrying.{rows}
use Rattle.carry_early.specs.declared.Begin.{Begin}
use Rattle.carry_lines.specs.Going.{Going}
use Rattle.carry_lines.specs.declared.Cursor.{Cursor}
use Rattle.carry_passes.specs.From.{lines_kept_from}
use Rattle.format.specs.Faults.{faults_from}
use Rattle.fault_lines.specs.Links.{links_in}
use Rattle.fault_lines.proofs.put_lines.Given as goal

-- the rows of the lines still to come
abbrev pub to_come : List ℕ → Begin → List ℕ → Cursor → List ℕ
to_come t b ps c = rows (faults_from (links_in ps) (b.line + c.line) c.programs (drop c.line (lines_kept_from t b)))

abbrev pub invariant-loop-c : goal.invariant-loop-c
invariant-loop-c l =
    Going l.b.strict l.text l.b.at l.area l.ids l.c
    × (l.row * 2 + length (to_come l.text l.b l.parents l.c) ≤ length l.table)
    × (over l.table (l.row * 2) (to_come l.text l.b l.parents l.c) ≡ over l.initial.table (l.b.line * 2) (rows (faults_from (links_in l.parents) l.b.line 0 (lines_kept_from l.text l.b))))
    × (l.row ≤ l.b.line + l.c.line)
    × (length l.area ≡ length l.initial.area)
    × (length l.ids ≡ length l.initial.ids)
    × (length l.table ≡ length l.initial.table)

abbrev pub decreases-loop-c : goal.decreases-loop-c
decreases-loop-c l = length l.text - l.c.at
