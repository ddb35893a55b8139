use Prim.Native.Nat.{◌+◌, ◌*◌, ◌≤◌}
use mathlib.Core.Path.{◌≡◌}
use lib.ListN.{length, drop}
use Rattle.format.specs.Programs.{depths, hops}
use Rattle.program_chains.specs.Parents.{links_of}
use Rattle.program_depths.specs.Depths.{KnownRight}
use Rattle.program_depths.proofs.Noting.{Reached, Behind}
use Rattle.program_depths.proofs.find_depths.Given as goal

abbrev pub invariant-loop-i : goal.invariant-loop-i
invariant-loop-i l =
    (l.hops ≤ 1024 * l.i) × (hops (links_of l.parents) ≡ l.hops + depths (links_of l.parents) (links_of (drop l.i l.parents))) × KnownRight l.parents l.list × Reached l.list l.i × (length l.list ≡ 1024) × Behind l.list (length l.parents)
