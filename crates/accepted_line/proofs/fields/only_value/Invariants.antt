use Prim.Native.Nat.{◌-◌}
use mathlib.Core.Path.{◌≡◌}
use mathlib.Core.Bool.{true}
use lib.ListN.{length}
use Rattle.format.specs.Fields.{last_of}
use Rattle.accepted_line.specs.Run.{fields_from, AtField}
use Rattle.accepted_line.specs.Next.{or_value, no_value, last_in}
use Rattle.accepted_line.proofs.fields.only_value.Given as goal

abbrev pub invariant-loop-i : goal.invariant-loop-i
invariant-loop-i l = AtField true l.at l.line l.i × (last_in l.at l.line l.a l.b ≡ or_value no_value (last_of l.a l.b (fields_from l.at l.line l.i)))

abbrev pub decreases-loop-i : goal.decreases-loop-i
decreases-loop-i l = length l.line - l.i
