use Prim.Native.Nat.{◌+◌, ◌-◌}
use mathlib.Core.Path.{◌≡◌}
use mathlib.Core.Bool.{false}
use lib.ListN.{length}
use Rattle.byte_slices.specs.Stands.{Each}
use Rattle.accepted_line.specs.Run.{fields_from, AtField}
use Rattle.accepted_line.specs.Tables.{HasTag, noted}
use Rattle.accepted_line.proofs.fields.note_tags.Given as goal

abbrev pub invariant-loop-i : goal.invariant-loop-i
invariant-loop-i l =
    AtField false l.at l.line l.i
    × Each HasTag (fields_from l.at l.line l.i)
    × (length l.tables ≡ length l.initial.tables)
    × (noted l.tables (l.at + l.i) (fields_from l.at l.line l.i) ≡ noted l.initial.tables (l.at + 3) (fields_from l.at l.line 3))

abbrev pub decreases-loop-i : goal.decreases-loop-i
decreases-loop-i l = length l.line - l.i
