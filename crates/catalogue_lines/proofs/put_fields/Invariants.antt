use Prim.Native.Nat.{◌+◌, ◌-◌}
use mathlib.Core.Path.{◌≡◌}
use lib.ListN.{length}
use Rattle.format.specs.Bytes.{none?}
use Rattle.catalogue_lines.specs.Parts.{field_bytes}
use Rattle.byte_slices.specs.Over.{over}
use Rattle.catalogue_lines.proofs.NextField.{Walked}
use Rattle.catalogue_lines.proofs.put_fields.Given as goal

abbrev pub invariant-loop-i : goal.invariant-loop-i
invariant-loop-i l =
    Walked (none? l.tables) l.at l.src l.kind l.i l.keys
    × (l.next + length (field_bytes l.kind l.at l.src l.i) ≡ l.o + length (field_bytes l.kind l.at l.src 3))
    × (over l.out l.next (field_bytes l.kind l.at l.src l.i) ≡ over l.initial.out l.o (field_bytes l.kind l.at l.src 3))
    × (length l.out ≡ length l.initial.out)

abbrev pub decreases-loop-i : goal.decreases-loop-i
decreases-loop-i l = length l.src - l.i
