-- The parent of each program as a number, and the answers of the functions on the graph.
use Rattle.std.specs.Prelude.{ℕ, suc, ◌-◌, ◌<◌, ◌≡◌, Bool, ◌||◌, cond, List, [], ◌∷◌, ◌++◌, map, length, get_or, replicate, eqb, ltb}
use Rattle.format.specs.Bytes.{all}
use Rattle.format.specs.Programs.{Link, root, child}

-- the parent of a program without PP
unfoldable pub nobody : ℕ
nobody = 4294967295

unfoldable pub link_of : ℕ → Link
unfolding nobody
link_of p = cond (eqb p nobody) root (child p)

-- the links that a list of parents describes
unfoldable pub links_of : List ℕ → List Link
unfolding link_of
links_of ps = map link_of ps

-- each parent is nobody, or one of the `n` programs
unfoldable pub are_parents : ℕ → List ℕ → Bool
unfolding nobody all
are_parents n ps = all (λ p. eqb p nobody || ltb p n) ps

-- a list of ordinals in an array of 1,024: zeros after it
unfoldable pub in_array : List ℕ → List ℕ
in_array xs = xs ++ replicate (1024 - length xs) 0

-- the place of `x` in a list, or the list's length if it is not there
unfoldable pub index_in : ℕ → List ℕ → ℕ
index_in x [] = 0
index_in x (y ∷ ys) = cond (eqb x y) 0 (suc (index_in x ys))

-- `places` has the place of each number of a list, all of which are below 1,024
abbrev pub HasPlaces : List ℕ → List ℕ → Type 0
HasPlaces places xs = (j : ℕ) → j < length xs → (get_or xs j 0 < 1024) × (get_or places (get_or xs j 0) 0 ≡ j)
