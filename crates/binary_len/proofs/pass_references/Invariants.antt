use Prim.Native.Nat.{◌≤◌, ◌-◌}
use mathlib.Core.Path.{◌≡◌}
use mathlib.Core.List.{List, ◌++◌}
use lib.ListN.{length}
use Rattle.binary_len.specs.BinaryLen.{references_at}
use Rattle.binary_len.proofs.pass_references.Given as goal

abbrev pub invariant-loop-passed : goal.invariant-loop-passed
invariant-loop-passed l =
    (l.at ≤ length l.bytes) × (references_at l.bytes l.start l.count ≡ references_at l.bytes l.at (l.count - l.passed))
    × ((rest : List _) → references_at (l.bytes ++ rest) l.start l.count ≡ references_at (l.bytes ++ rest) l.at (l.count - l.passed))
