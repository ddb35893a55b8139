-- The marks of the tags of a line: the place of a tag's mark, and how many places there are.
use Rattle.std.specs.Prelude.{ℕ, ◌+◌, ◌-◌, ◌*◌, ◌%◌, Bool, true, false}

-- exact: each tag has its own place; otherwise it has one of 64
unfoldable pub mark_place : Bool → ℕ → ℕ → ℕ
mark_place true a b = (a - 65) * 75 + (b - 48)
mark_place false a b = (a * 4 + b) % 64

unfoldable pub marks_of : Bool → ℕ
marks_of true = 4350
marks_of false = 64
