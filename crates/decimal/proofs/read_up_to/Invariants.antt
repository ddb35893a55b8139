use Prim.Native.Nat.{suc, ◌≤◌}
use mathlib.Core.Path.{◌≡◌}
use lib.ListN.{drop}
use Rattle.decimal.specs.Number.{number_at_front}
use Rattle.decimal.proofs.Front.{front_from}
use Rattle.decimal.proofs.read_up_to.Given as goal

abbrev pub invariant-loop-b : goal.invariant-loop-b
invariant-loop-b l = (l.len ≡ l.b-index) × (l.value ≤ l.max) × (number_at_front (suc l.max) l.s ≡ front_from (suc l.max) l.value l.len (drop l.len l.s))
