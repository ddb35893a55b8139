-- The answer of leaves in the code's numbers, and the list that it leaves in an output.
use Rattle.std.specs.Prelude.{ℕ, List, length, Result, Ok, Err}
use Rattle.format.specs.Calls.{Answer, refused, yes}
use Rattle.format.specs.declared.Refusal.{Refusal}
use Rattle.programs.specs.declared.Counted.{Counted}

-- how many leaves and the hops, or a refusal and its line
unfoldable pub leaves_answer_of : Answer (List ℕ × ℕ) → Result Counted Refusal
leaves_answer_of (refused n l) = Err (record { number = n; line = record { 0 = l } })
leaves_answer_of (yes a) = Ok (record { leaves = length a.0; hops = a.1 })

-- the list of ordinals that is answered
unfoldable pub list_of : Answer (List ℕ × ℕ) → Answer (List ℕ)
list_of (refused n l) = refused n l
list_of (yes a) = yes a.0

-- an answer in the code's numbers, with the hops
unfoldable pub with_hops : Result ℕ Refusal → ℕ → Result Counted Refusal
with_hops (Err r) h = Err r
with_hops (Ok n) h = Ok (record { leaves = n; hops = h })
