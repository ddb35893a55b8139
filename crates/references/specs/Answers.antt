-- The answer of the call in the code's numbers, and the numbers that it leaves in a table.
use Rattle.std.specs.Prelude.{ℕ, List, Result, Ok, Err}
use Rattle.format.specs.Calls.{Answer, refused, yes}
use Rattle.format.specs.declared.Refusal.{Refusal}

-- how many rows are written, or a refusal and its line
unfoldable pub row_count_of : Answer (List ℕ × ℕ) → Result ℕ Refusal
row_count_of (refused n l) = Err (record { number = n; line = record { 0 = l } })
row_count_of (yes a) = Ok a.1

-- the numbers of the rows
unfoldable pub numbers_of : Answer (List ℕ × ℕ) → Answer (List ℕ)
numbers_of (refused n l) = refused n l
numbers_of (yes a) = yes a.0
