-- The answers of the calls that look up a record, in the code's numbers.
use Rattle.std.specs.Prelude.{ℕ, ◌+◌, length, Option, None, Some, Result, Ok, Err}
use Rattle.format.specs.Lines.{Piece}
use Rattle.format.specs.Calls.{Answer, refused, yes}
use Rattle.format.specs.declared.LineNo.{LineNo}
use Rattle.format.specs.declared.Refusal.{Refusal}
use Rattle.catalogue_entries.specs.declared.Place.{Place}

-- how many, or a refusal and its line
unfoldable pub count_of : Answer ℕ → Result ℕ Refusal
count_of (refused n l) = Err (record { number = n; line = record { 0 = l } })
count_of (yes n) = Ok n

-- where the key is and how long it is, or a refusal and its line
unfoldable pub key_answer_of : Answer Piece → Result Place Refusal
key_answer_of (refused n l) = Err (record { number = n; line = record { 0 = l } })
key_answer_of (yes p) = Ok (record { at = p.at; len = length p.bytes })

-- the LN, or a refusal and its line
unfoldable pub length_answer_of : Answer ℕ → Result ℕ Refusal
length_answer_of (refused n l) = Err (record { number = n; line = record { 0 = l } })
length_answer_of (yes n) = Ok n

-- the line of a record, or a refusal and its line
unfoldable pub line_answer_of : Answer ℕ → Result LineNo Refusal
line_answer_of (refused n l) = Err (record { number = n; line = record { 0 = l } })
line_answer_of (yes l) = Ok (record { 0 = l })

-- where the value of a field is and how long it is; none where the stand-in is used
unfoldable pub value_place_of : Answer Piece → Option Place
value_place_of (refused n l) = None
value_place_of (yes p) = Some (record { at = p.at; len = length p.bytes })

-- where the answer of a lookup is: in the text at the value's offset, or where the stand-in is
unfoldable pub part_standing : Answer Piece → ℕ × ℕ → ℕ × ℕ → ℕ × ℕ
part_standing (refused n l) text stand = stand
part_standing (yes p) text stand = (text.0, p.at + text.1)
