use Prim.Native.Nat.{ℕ, ◌≤◌}
use mathlib.Core.Path.{◌≡◌}
use mathlib.Core.List.{List}
use lib.ListN.{length, drop}
use Rattle.format.specs.Programs.{leaves, leaves_from}
use Rattle.program_chains.specs.Parents.{links_of, in_array, HasPlaces}
use Rattle.program_chains.proofs.Times.{Once}
use Rattle.program_chains.proofs.leaves.Given as goal

-- what is listed, in its array, with its places
abbrev pub Listed : List ℕ → List ℕ → List ℕ → ℕ → ℕ → Type 0
Listed ps list places count i =
    (xs : List ℕ) × (list ≡ in_array xs) × (length xs ≡ count) × Once xs × (leaves (links_of ps) ≡ leaves_from xs (links_of (drop i ps))) × HasPlaces places xs

abbrev pub invariant-loop-k : goal.invariant-loop-k
invariant-loop-k l = (l.count ≤ length l.parents) × (length l.places ≡ 1024) × Listed l.parents l.list l.places l.count l.k-index
