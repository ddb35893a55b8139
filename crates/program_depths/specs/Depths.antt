-- Depths of programs, from a list of their parents, in an array in which some of them are known.
use Rattle.std.specs.Prelude.{ℕ, ◌<◌, ◌≡◌, cond, Option, Some, None, List, map, length, get_or}
use Rattle.format.specs.Programs.{Link, loops_from, depth, hops}
use Rattle.program_chains.specs.Parents.{link_of, links_of, in_array}
use Rattle.program_depths.specs.declared.Depths.{Depths}

-- the number of parent links from program `k` to its root, at most n
unfoldable pub deep : List ℕ → ℕ → ℕ
unfolding depth links_of link_of
deep ps k = depth (links_of ps) (length ps) (link_of (get_or ps k 0))

-- every depth that is known is right and less than the number of programs
abbrev pub KnownRight : List ℕ → List ℕ → Type 0
KnownRight ps ds = (k : ℕ) → k < length ps → (get_or ds k 0 ≡ 4294967295 → ⊥) → (get_or ds k 0 ≡ deep ps k) × (deep ps k < length ps)

-- what is known stays
abbrev pub KnownStay : List ℕ → List ℕ → Type 0
KnownStay ds es = (k : ℕ) → (get_or ds k 0 ≡ 4294967295 → ⊥) → get_or es k 0 ≡ get_or ds k 0

-- the depth of every program, and the hops: `None` if a program comes back to itself
unfoldable pub depths_of : List Link → Option Depths
unfolding in_array loops_from depth hops
depths_of ls =
    cond (loops_from ls 0 ls)
    None
    (Some (record { list = in_array (map (depth ls (length ls)) ls); hops = hops ls }))
