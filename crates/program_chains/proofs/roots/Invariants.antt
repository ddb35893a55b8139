use Prim.Native.Nat.{ℕ, ◌≤◌}
use mathlib.Core.Path.{◌≡◌}
use mathlib.Core.List.{List, ◌++◌}
use lib.ListN.{length, drop}
use Rattle.format.specs.Programs.{roots, roots_from}
use Rattle.program_chains.specs.Parents.{links_of, in_array}
use Rattle.program_chains.proofs.roots.Given as goal

-- what is listed, in its array
abbrev pub Listed : List ℕ → List ℕ → ℕ → ℕ → Type 0
Listed ps list count i = (xs : List ℕ) × (list ≡ in_array xs) × (length xs ≡ count) × (roots (links_of ps) ≡ xs ++ roots_from i (links_of (drop i ps)))

abbrev pub invariant-loop-i : goal.invariant-loop-i
invariant-loop-i l = (l.count ≤ l.i) × Listed l.parents l.list l.count l.i
