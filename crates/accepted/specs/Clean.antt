-- The bytes of an accepted line of fields.
use Rattle.std.specs.Prelude.{ℕ, Bool, ◌||◌, eqb}
use Rattle.utf8.specs.Shown.{shown}

-- a tab, or not below 32 and not 127
unfoldable pub clean : ℕ → Bool
unfolding shown
clean b = eqb b 9 || shown b
