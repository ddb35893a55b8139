use Prim.Native.Nat.{◌≤◌}
use mathlib.Core.Path.{◌≡◌}
use mathlib.Core.Bool.{false}
use lib.ListN.{length, drop, replicate}
use Rattle.merge_lists.specs.Marks.{fresh_by, marked_by}
use Rattle.merge_lists.proofs.mark_list.Given as goal

abbrev pub invariant-loop-ordinal : goal.invariant-loop-ordinal
invariant-loop-ordinal l =
    (l.ordinal-index ≤ length l.list)
    × (length l.hits ≡ 1024)
    × (fresh_by l.count (replicate 1024 false) l.list ≡ fresh_by l.count l.hits (drop l.ordinal-index l.list))
    × (marked_by (replicate 1024 false) l.list ≡ marked_by l.hits (drop l.ordinal-index l.list))
