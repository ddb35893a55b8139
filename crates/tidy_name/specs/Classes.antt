-- The class that the name rule gives a byte.
use Rattle.std.specs.Prelude.{ℕ, cond}
use Rattle.format.specs.Tidy.{name_first, name_later}

-- 0 never, 1 only later, 2 anywhere
unfoldable pub class_of : ℕ → ℕ
unfolding name_first name_later
class_of b = cond (name_first b) 2 (cond (name_later b) 1 0)
