-- How many slots the searches for names look at.
use Rattle.std.specs.Prelude.{ℕ, ◌+◌, List, [], ◌∷◌}

-- the sum of a number for each name
unfoldable pub summed : (List ℕ → ℕ) → List (List ℕ) → ℕ
summed f [] = 0
summed f (x ∷ xs) = f x + summed f xs
