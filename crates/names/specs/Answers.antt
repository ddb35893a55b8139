-- The answer of a batch in the code's numbers, and what the call leaves in the result list and in the work area.
use Rattle.std.specs.Prelude.{ℕ, List, length, Result, Ok, Err}
use Rattle.format.specs.Calls.{Answer, refused, yes}
use Rattle.format.specs.declared.Refusal.{Refusal}
use Rattle.names.specs.declared.Counted.{Counted}

-- how many names are answered and how many slots were looked at, or a refusal and its line
unfoldable pub names_of : Answer (List ℕ × List ℕ × ℕ) → Result Counted Refusal
names_of (refused n l) = Err (record { number = n; line = record { 0 = l } })
names_of (yes a) = Ok (record { names = length a.0; looks = a.2 })

-- the ordinals in an answer
unfoldable pub results_of : Answer (List ℕ × List ℕ × ℕ) → Answer (List ℕ)
results_of (refused n l) = refused n l
results_of (yes a) = yes a.0

-- the index in an answer
unfoldable pub slots_of : Answer (List ℕ × List ℕ × ℕ) → Answer (List ℕ)
slots_of (refused n l) = refused n l
slots_of (yes a) = yes a.1
