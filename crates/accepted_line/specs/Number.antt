-- A number for each tag.
use Rattle.std.specs.Prelude.{ℕ, ◌+◌, ◌-◌, ◌*◌, cond, leb}

-- the place of a byte of a tag among 62: A to Z, a to z, 0 to 9
unfoldable pub byte_number : ℕ → ℕ
byte_number b = cond (leb 97 b) (b - 71) (cond (leb 65 b) (b - 65) (b + 4))

-- 62 for each letter before the first, plus the place of the second
unfoldable pub tag_number : ℕ → ℕ → ℕ
unfolding byte_number
tag_number a b = byte_number a * 62 + byte_number b
