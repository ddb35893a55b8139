-- The answer of the search for a key, in the code's numbers.
use Rattle.std.specs.Prelude.{ℕ, Result, Ok, Err}
use Rattle.format.specs.Calls.{Answer, refused, yes}
use Rattle.format.specs.declared.Refusal.{Refusal}

-- the ordinal, or a refusal and its line
unfoldable pub find_answer_of : Answer ℕ → Result ℕ Refusal
find_answer_of (refused n l) = Err (record { number = n; line = record { 0 = l } })
find_answer_of (yes i) = Ok i
