-- The answer of reading a number at the front of a slice.
use Rattle.std.specs.Prelude.{ℕ, suc, ◌^◌, ◌≡◌, cond, List, length, eqb, ltb, Result, Ok, Err}
use Rattle.format.specs.Bytes.{none?}
use Rattle.format.specs.Decimal.{worth, span}
use Rattle.format.specs.Fields.{refused_piece, length_field}
use Rattle.decimal.specs.declared.Number.{Number}
use Rattle.decimal.specs.declared.NumberError.{NumberError}
use Rattle.decimal.specs.declared.NumberError.TheVariants.{NoDigit, TooLarge}

-- the number `n` of `k` digits
abbrev pub number_of : ℕ → ℕ → Number
number_of n k = record { value = n; len = k }

-- a run of digits: none; `limit` or more; or its value and how many digits there are
unfoldable pub digits_number : ℕ → List ℕ → Result Number NumberError
unfolding none? worth
digits_number limit ds = cond (none? ds) (Err NoDigit) (cond (ltb (worth ds) limit) (Ok (number_of (worth ds) (length ds))) (Err TooLarge))

-- the digits at the front of `s`, read as a number below `limit`
unfoldable pub number_at_front : ℕ → List ℕ → Result Number NumberError
unfolding digits_number span
number_at_front limit s = digits_number limit (span s).0

-- the refusal of each answer for LN of SQ, and 0 for 1 to 2 ^ 31 - 1
unfoldable pub number_refusal : Result Number NumberError → ℕ
number_refusal (Err e) = 12
number_refusal (Ok n) = cond (eqb n.value 0) 13 (cond (ltb n.value (2 ^ 31)) 0 27)

-- LN of SQ with the value `v`, for whose number of 64 bits `r` is the answer: if that is a refusal, the field is refused with its number
abbrev pub NumberTold : List ℕ → Result Number NumberError → Type 0
NumberTold v r = (at n : ℕ) → number_refusal r ≡ suc n → length_field at (span v) ≡ refused_piece (suc n)
