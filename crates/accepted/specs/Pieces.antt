-- The pieces of a record.
use Rattle.std.specs.Prelude.{List, [], ◌∷◌, map}
use Rattle.format.specs.Lines.{Piece}
use Rattle.format.specs.Fields.{Field}
use Rattle.format.specs.Records.{Record, header, reference, group, program, comment}

unfoldable pub values : List Field → List Piece
values fs = map (λ f. f.value) fs

-- the key if there is one, the comment, and the values of the other fields
unfoldable pub pieces : Record → List Piece
unfolding values
pieces (header v fs) = values fs
pieces (reference p n fs) = p ∷ values fs
pieces (group p fs) = p ∷ values fs
pieces (program p fs) = p ∷ values fs
pieces (comment p) = p ∷ []
