-- What the tidy text has for one line: the text of the record, and whether its name can be written.
use Rattle.std.specs.Prelude.{ℕ, Bool, true, cond, List, Option, Some, None, [], length}
use Rattle.format.specs.Records.{Line, refused_line, read}
use Rattle.format.specs.Tidy.{record_text, is_writable}

-- the record's line, with its LF
unfoldable pub line_text : Line → List ℕ
unfolding record_text
line_text (refused_line n) = []
line_text (read r) = record_text r

-- can it be written?
unfoldable pub line_writable : Line → Bool
unfolding is_writable
line_writable (refused_line n) = true
line_writable (read r) = is_writable r

-- its length, if it can be written
unfoldable pub line_size : Line → Option ℕ
unfolding line_writable line_text
line_size l = cond (line_writable l) (Some (length (line_text l))) None
