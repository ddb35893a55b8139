use Prim.Native.Nat.{◌+◌, ◌*◌, ◌≤◌}
use mathlib.Core.Path.{◌≡◌}
use lib.ListN.{drop}
use Rattle.format.specs.Programs.{depths, hops}
use Rattle.program_chains.specs.Parents.{links_of}
use Rattle.program_walks.proofs.hops.Given as goal

abbrev pub invariant-loop-i : goal.invariant-loop-i
invariant-loop-i l = (l.sum ≤ 1024 * l.i) × (hops (links_of l.parents) ≡ l.sum + depths (links_of l.parents) (links_of (drop l.i l.parents)))
