use Prim.Native.Nat.{◌+◌, ◌-◌, ◌≤◌}
use mathlib.Core.Path.{◌≡◌}
use lib.ListN.{length, drop}
use Rattle.format.specs.Bytes.{starts}
use Rattle.format.specs.Bytes.{none?}
use Rattle.catalogue_lines.specs.Parts.{field_bytes}
use Rattle.catalogue_lines.proofs.NextField.{Walked}
use Rattle.catalogue_lines.proofs.same_fields.Given as goal

abbrev pub invariant-loop-i : goal.invariant-loop-i
invariant-loop-i l =
    Walked (none? l.tables) l.at l.src l.kind l.i l.keys
    × (l.next ≤ length l.catalogue)
    × (l.next + length (field_bytes l.kind l.at l.src l.i) ≡ l.o + length (field_bytes l.kind l.at l.src 3))
    × (starts (field_bytes l.kind l.at l.src 3) (drop l.o l.catalogue) ≡ starts (field_bytes l.kind l.at l.src l.i) (drop l.next l.catalogue))

abbrev pub decreases-loop-i : goal.decreases-loop-i
decreases-loop-i l = length l.src - l.i
