use Prim.Native.Nat.{◌≤◌, ◌<◌, ◌^◌}
use mathlib.Core.Path.{◌≡◌}
use lib.ListN.{drop}
use Rattle.decimal.specs.Number.{number_at_front}
use Rattle.decimal.proofs.Front.{front_from}
use Rattle.record_parser.proofs.plain.whole_length.Given as goal

abbrev pub invariant-loop-b : goal.invariant-loop-b
invariant-loop-b l = (l.n ≤ 2147483649) × ((l.n ≡ 0 → ⊥) → 0 < l.b-index) × (number_at_front (2 ^ 64) l.src ≡ front_from (2 ^ 64) l.n l.b-index (drop l.b-index l.src))
