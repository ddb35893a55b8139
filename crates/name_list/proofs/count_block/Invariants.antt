use Prim.Native.Nat.{◌+◌, ◌≤◌}
use mathlib.Core.Path.{◌≡◌}
use lib.ListN.{drop}
use Rattle.name_list.specs.Ends.{ends}
use Rattle.name_list.proofs.count_block.Given as goal

abbrev pub invariant-loop-i : goal.invariant-loop-i
invariant-loop-i l = (l.n ≤ l.i) × (ends (drop l.at l.list) ≡ l.n + ends (drop (l.at + l.i) l.list))
