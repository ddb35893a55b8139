-- How many slots were looked at, and when they are too many.
use Rattle.std.specs.Prelude.{ℕ, ◌+◌, ◌*◌, Bool, false, cond, ltb}

-- with those for one key more, as far as that is counted; by keyed numbers none is
unfoldable pub counted_slots : Bool → ℕ → ℕ → ℕ
counted_slots keyed slots more = cond keyed slots (cond (ltb 4294967296 more) 4294967296 (slots + more))

-- more than 16 for each line, beyond the first 65,536; keyed numbers are never too many
unfoldable pub too_many : Bool → ℕ → ℕ → Bool
too_many keyed lines slots = cond keyed false (ltb (65536 + 16 * lines) slots)
