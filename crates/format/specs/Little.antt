-- The value of little-endian bytes.
use Rattle.std.specs.Prelude.{ℕ, ◌+◌, ◌*◌, List, [], ◌∷◌}

-- the lowest first, as `little` of the catalogue writes them
unfoldable pub of_little : List ℕ → ℕ
of_little [] = 0
of_little (b ∷ s) = b + 256 * of_little s
