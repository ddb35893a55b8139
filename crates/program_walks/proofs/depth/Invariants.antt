use Prim.Native.Nat.{◌+◌, ◌-◌, ◌<◌}
use mathlib.Core.Path.{◌≡◌}
use lib.ListN.{length, get_or}
use Rattle.format.specs.Programs.{depth}
use Rattle.program_chains.specs.Parents.{link_of, links_of}
use Rattle.program_walks.proofs.depth.Given as goal

abbrev pub invariant-loop-steps : goal.invariant-loop-steps
invariant-loop-steps l = ((l.at ≡ 4294967295 → ⊥) → l.at < length l.parents) × (depth (links_of l.parents) (length l.parents) (link_of (get_or l.parents l.i 0)) ≡ l.steps + depth (links_of l.parents) (length l.parents - l.steps) (link_of l.at))
