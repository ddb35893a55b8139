-- The references of a header as rows of three numbers, in the order of its SQ records.
use Rattle.std.specs.Prelude.{ℕ, List, [], ◌∷◌, ◌++◌, length}
use Rattle.format.specs.Records.{Record, header, reference, group, program, comment}
use Rattle.format.specs.Reading.{of_kind}
use Rattle.format.specs.Calls.{Answer, yes, then, fresh, fitting}

-- the row of an SQ: the offset of SN, its length, and LN
unfoldable pub row : Record → List ℕ
row (header v fs) = []
row (reference p n fs) = p.at ∷ length p.bytes ∷ n ∷ []
row (group p fs) = []
row (program p fs) = []
row (comment p) = []

-- one after another
unfoldable pub rows : List Record → List ℕ
unfolding row
rows [] = []
rows (r ∷ rs) = row r ++ rows rs

-- the numbers, and how many SQ there are; `room` is how many numbers the table takes
unfoldable pub referencing : List ℕ → List ℕ → ℕ → Answer (List ℕ × ℕ)
unfolding then fresh fitting rows of_kind
referencing text c room =
    then (fresh text c) (λ rs.
    then (fitting room (rows (of_kind 2 rs))) (λ xs. yes (xs, length (of_kind 2 rs))))
