use Prim.Native.Nat.{◌-◌, ◌<◌}
use mathlib.Core.Path.{◌≡◌}
use lib.ListN.{length, get_or}
use Rattle.format.specs.Programs.{reaches}
use Rattle.program_chains.specs.Parents.{link_of, links_of}
use Rattle.program_walks.proofs.comes_back.Given as goal

abbrev pub invariant-loop : goal.invariant-loop
invariant-loop l = ((l.at ≡ 4294967295 → ⊥) → l.at < length l.parents) × (reaches (links_of l.parents) l.i (length l.parents) (link_of (get_or l.parents l.i 0)) ≡ reaches (links_of l.parents) l.i (length l.parents - l.counter) (link_of l.at))
