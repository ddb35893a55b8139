use Prim.Native.Nat.{◌+◌, ◌-◌, ◌≤◌}
use mathlib.Core.Path.{◌≡◌}
use lib.ListN.{length}
use Rattle.fault_lines.specs.Links.{links_in, link_count}
use Rattle.fault_lines.proofs.count_links.Given as goal

abbrev pub invariant-loop-i : goal.invariant-loop-i
invariant-loop-i l =
    (l.n + link_count (links_in l.parents) l.i (length l.parents - l.i) ≡ link_count (links_in l.parents) 0 (length l.parents)) × (l.n ≤ l.i)
