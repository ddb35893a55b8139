-- The bytes of one line in the catalogue.
use Rattle.std.specs.Prelude.{ℕ, Bool, List, [], ◌++◌}
use Rattle.format.specs.Records.{Line, refused_line, read, others, line}
use Rattle.format.specs.Catalogue.{little, head, tails}

-- the own entry of a record on the line `l`, and those of its other fields; nothing for a refusal
unfoldable pub record_bytes : ℕ → Line → List ℕ
unfolding head little tails others
record_bytes l (refused_line n) = []
record_bytes l (read r) = head r ++ little 4 l ++ tails (others r)

-- the bytes for the line `s` with the number `l` and the offset `at`
abbrev pub line_bytes : Bool → ℕ → ℕ → List ℕ → List ℕ
line_bytes strict l at s = record_bytes l (line strict (record { at = at; bytes = s }))
