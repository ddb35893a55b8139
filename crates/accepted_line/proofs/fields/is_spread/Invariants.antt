use Prim.Native.Nat.{◌-◌}
use mathlib.Core.Path.{◌≡◌}
use mathlib.Core.Bool.{false}
use lib.ListN.{length, replicate}
use Rattle.accepted_line.specs.Run.{fields_from, AtField}
use Rattle.accepted_line.specs.Tables.{spread}
use Rattle.accepted_line.proofs.fields.is_spread.Given as goal

abbrev pub invariant-loop-i : goal.invariant-loop-i
invariant-loop-i l =
    AtField false l.at l.line l.i
    × (length l.seen ≡ 112)
    × (spread l.seen (fields_from l.at l.line l.i) ≡ spread (replicate 112 false) (fields_from l.at l.line 3))

abbrev pub decreases-loop-i : goal.decreases-loop-i
decreases-loop-i l = length l.line - l.i
