-- When judging is given up.
use Rattle.std.specs.Prelude.{ℕ, Bool, true, false, cond, eqb}
use Rattle.key_index.specs.Counting.{too_many}

-- too many slots were looked at, or the line `clash` says that looking ahead was given up; by keyed numbers never
unfoldable pub kept_busy : Bool → ℕ → ℕ → ℕ → Bool
unfolding too_many
kept_busy keyed clash lines slots = cond keyed false (cond (eqb clash 16777218) true (too_many keyed lines slots))
