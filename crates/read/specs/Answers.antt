-- The answers of the calls in the code's numbers, and what the calls leave in an output.
use Rattle.std.specs.Prelude.{ℕ, Bool, List, ◌++◌, length, drop, Result, Ok, Err, ⊤}
use Rattle.format.specs.Records.{Record}
use Rattle.format.specs.Calls as calls
use Rattle.format.specs.declared.Refusal.{Refusal}

-- how many bytes or ordinals are written, or a refusal and its line
unfoldable pub answer_of : calls.Answer (List ℕ) → Result ℕ Refusal
answer_of (calls.refused n l) = Err (record { number = n; line = record { 0 = l } })
answer_of (calls.yes xs) = Ok (length xs)

-- the answer is at the front of the output and the rest stays as it was; a refusal changes nothing
unfoldable pub output_of : calls.Answer (List ℕ) → List ℕ → List ℕ
output_of (calls.refused n l) out = out
output_of (calls.yes xs) out = xs ++ drop (length xs) out

-- the catalogue is this text's, or the reason why not
unfoldable pub checked_of : calls.Answer (List Record) → Result ⊤ Refusal
checked_of (calls.refused n l) = Err (record { number = n; line = record { 0 = l } })
checked_of (calls.yes rs) = Ok tt

-- the same, and whether no tag is repeated in any line of the text
unfoldable pub checked_text_of : Bool → calls.Answer (List Record) → Result Bool Refusal
checked_text_of once (calls.refused n l) = Err (record { number = n; line = record { 0 = l } })
checked_text_of once (calls.yes rs) = Ok once

-- for those who go over no line again
unfoldable pub without_rule : Result Bool Refusal → Result ⊤ Refusal
without_rule (Err r) = Err r
without_rule (Ok once) = Ok tt
