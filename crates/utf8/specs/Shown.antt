-- The bytes of characters.
use Rattle.std.specs.Prelude.{ℕ, Bool, not, ◌&&◌, eqb, leb}

-- not below 32, and not 127
unfoldable pub shown : ℕ → Bool
shown b = leb 32 b && not (eqb b 127)
