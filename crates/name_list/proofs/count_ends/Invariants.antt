use Prim.Native.Nat.{◌+◌, ◌*◌, ◌≤◌}
use mathlib.Core.Path.{◌≡◌}
use lib.ListN.{drop}
use Rattle.name_list.specs.Ends.{ends}
use Rattle.name_list.proofs.count_ends.Given as goal

abbrev pub invariant-loop-block : goal.invariant-loop-block
invariant-loop-block l = (l.n ≤ l.block * 128) × (ends l.list ≡ l.n + ends (drop (l.block * 128) l.list))
