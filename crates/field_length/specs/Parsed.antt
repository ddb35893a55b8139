-- The answer of reading LN of SQ, in terms of the definitions of `format`.
use Rattle.std.specs.Prelude.{ℕ, cond, length, eqb, Result, Ok, Err}
use Rattle.format.specs.Decimal.{worth}
use Rattle.format.specs.Fields.{JudgedPiece, refused_piece, good, good_then}
use Rattle.decimal.specs.Number.{number_of}
use Rattle.decimal.specs.declared.Number.{Number}
use Rattle.field_length.specs.declared.LengthError.{LengthError}
use Rattle.field_length.specs.declared.LengthError.TheVariants.{Invalid, Zero, Long}

-- the refusal of each answer, and 0 for a length
unfoldable pub length_refusal : Result Number LengthError → ℕ
length_refusal (Err Invalid) = 12
length_refusal (Err Zero) = 13
length_refusal (Err Long) = 27
length_refusal (Ok n) = 0

-- the refusal of a piece, and 0 for a field; what may follow its value is judged with the next field
unfoldable pub piece_refusal : JudgedPiece → ℕ
piece_refusal (refused_piece n) = n
piece_refusal (good f) = 0
piece_refusal (good_then f n) = 0

-- why there is no length, or the number and how many digits it has
unfoldable pub parsed_length_of : JudgedPiece → Result Number LengthError
unfolding worth
parsed_length_of (refused_piece n) = Err (cond (eqb n 13) Zero (cond (eqb n 27) Long Invalid))
parsed_length_of (good f) = Ok (number_of (worth f.value.bytes) (length f.value.bytes))
parsed_length_of (good_then f n) = Ok (number_of (worth f.value.bytes) (length f.value.bytes))
