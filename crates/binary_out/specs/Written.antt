-- The binary header of a text that is accepted.
use Rattle.std.specs.Prelude.{ℕ, List}
use Rattle.format.specs.Reading.{longest}
use Rattle.format.specs.Tidy.{tidy, unwritable}
use Rattle.format.specs.Calls.{Answer, then, fitting, writing}
use Rattle.accepted.specs.Read.{records_of}
use Rattle.format.specs.References.{sq_list}
use Rattle.format.specs.Binary.{binary}

-- its tidy text and its SQ list
abbrev pub binary_of : List ℕ → List ℕ
binary_of t = binary (tidy (records_of t)) (sq_list (records_of t))

-- these are written, or the refusal: 24, 1, 20
abbrev pub writing_binary : List ℕ → ℕ → Answer (List ℕ)
writing_binary t room = then (writing longest (unwritable 0 (records_of t)) (tidy (records_of t))) (λ x. fitting room (binary x (sq_list (records_of t))))
