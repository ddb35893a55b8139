use Prim.Native.Nat.{◌≤◌}
use mathlib.Core.Path.{◌≡◌}
use lib.ListN.{length}
use Rattle.format.specs.Fields.{is_value}
use Rattle.byte_slices.specs.Upto.{before}
use Rattle.field.specs.Taken.{taken_of}
use Rattle.field.proofs.value.Value.{left}
use Rattle.field.proofs.value.value_len.Given as goal

abbrev pub invariant-loop-i : goal.invariant-loop-i
invariant-loop-i l = (l.i ≤ length l.src) × (taken_of is_value (before 9 l.src) ≡ left l.i l.src)
