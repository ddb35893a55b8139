use Prim.Native.Nat.{◌+◌, ◌-◌}
use mathlib.Core.Path.{◌≡◌}
use lib.ListN.{length}
use Rattle.byte_slices.specs.Over.{over}
use Rattle.format.specs.Bytes.{none?}
use Rattle.accepted_line.specs.Run.{AtField}
use Rattle.tidy_fields.specs.Others.{others_text}
use Rattle.tidy_fields.proofs.Others.{rest_text}
use Rattle.tidy_fields.proofs.put_rest.Given as goal

abbrev pub invariant-loop-i : goal.invariant-loop-i
invariant-loop-i l =
    AtField (none? l.tables) l.at l.line l.i
    × (l.n + length (rest_text l.kind l.at l.line l.i) ≡ l.o + length (others_text l.kind l.at l.line))
    × (over l.out l.n (rest_text l.kind l.at l.line l.i) ≡ over l.initial.out l.o (others_text l.kind l.at l.line))
    × (length l.out ≡ length l.initial.out)

abbrev pub decreases-loop-i : goal.decreases-loop-i
decreases-loop-i l = length l.line - l.i
