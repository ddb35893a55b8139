use Prim.Native.Nat.{◌+◌, ◌-◌, ◌≤◌}
use mathlib.Core.Path.{◌≡◌}
use lib.ListN.{length, take, drop}
use Rattle.carry_lines.specs.Going.{Going}
use Rattle.carry_passes.specs.From.{lines_kept_from}
use Rattle.fault_programs.specs.Plain.{plain_count}
use Rattle.fault_programs.proofs.KeptPrograms.{programs_in, Noting}
use Rattle.fault_programs.proofs.gather.Given as goal

abbrev pub invariant-loop-c : goal.invariant-loop-c
invariant-loop-c l =
    Going l.b.strict l.text l.b.at l.area l.ids l.c
    × (l.plain + plain_count (drop l.c.line (lines_kept_from l.text l.b)) ≡ plain_count (lines_kept_from l.text l.b))
    × (l.plain ≤ l.c.line)
    × Noting l.text (programs_in (take l.c.line (lines_kept_from l.text l.b))) l.ats l.lens l.from l.widths
    × (length l.area ≡ length l.initial.area)
    × (length l.ids ≡ length l.initial.ids)

abbrev pub decreases-loop-c : goal.decreases-loop-c
decreases-loop-c l = length l.text - l.c.at
