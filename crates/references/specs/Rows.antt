-- The rows that the entries of a catalogue give.
use Rattle.std.specs.Prelude.{ℕ, ◌≤◌, ◌<◌, List, [], ◌∷◌, ◌++◌, length}
use Rattle.byte_slices.specs.Stands.{Each}
use Rattle.catalogue_entries.specs.declared.Entry.{Entry}
use Rattle.catalogue_entries.specs.declared.Entry.TheVariants.{End, Header, ReferenceSequence, ReadGroup, Program, Comment, Field}

-- the row of an SQ entry: where the name is, how long it is, and LN
unfoldable pub entry_row : Entry → List ℕ
entry_row End = []
entry_row (Header v l) = []
entry_row (ReferenceSequence p n l) = p.at ∷ p.len ∷ n ∷ []
entry_row (ReadGroup p l) = []
entry_row (Program p l) = []
entry_row (Comment p l) = []
entry_row (Field a b p) = []

unfoldable pub rows_in : List Entry → List ℕ
unfolding entry_row
rows_in [] = []
rows_in (e ∷ es) = entry_row e ++ rows_in es

-- the LN of an SQ entry fits into 32 bits
unfoldable pub ShortLength : Entry → Type 0
ShortLength End = Unit
ShortLength (Header v l) = Unit
ShortLength (ReferenceSequence p n l) = n < 4294967296
ShortLength (ReadGroup p l) = Unit
ShortLength (Program p l) = Unit
ShortLength (Comment p l) = Unit
ShortLength (Field a b p) = Unit

-- each LN fits, and the table has room for all rows
pub record RowsFit (es : List Entry) (room : ℕ) : Type 0 where
  pub short : Each ShortLength es
  pub space : length (rows_in es) ≤ room
