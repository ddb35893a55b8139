use Prim.Native.Nat.{◌-◌, ◌≤◌}
use mathlib.Core.Path.{◌≡◌}
use Rattle.merge_lists.specs.Marks.{hit_from}
use Rattle.merge_lists.proofs.is_covered.Given as goal

abbrev pub invariant-loop-i : goal.invariant-loop-i
invariant-loop-i l = (l.i ≤ l.count) × (hit_from l.a l.b 0 l.count ≡ hit_from l.a l.b l.i (l.count - l.i))
