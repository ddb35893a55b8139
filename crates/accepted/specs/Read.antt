-- What reading accepts: a line, a text, and the records of a text.
use Rattle.std.specs.Prelude.{ℕ, Bool, true, false, List, []}
use Rattle.format.specs.Records.{Record, Line, refused_line, read}
use Rattle.format.specs.Reading.{Reading, refused_text, accept, read_text}

-- is the line accepted?
unfoldable pub is_read : Line → Bool
is_read (refused_line n) = false
is_read (read r) = true

-- is the text accepted?
unfoldable pub is_accepted : Reading → Bool
is_accepted (refused_text n l) = false
is_accepted (accept rs) = true

unfoldable pub kept : Reading → List Record
kept (refused_text n l) = []
kept (accept rs) = rs

-- the records that reading gives
unfoldable pub records_of : List ℕ → List Record
unfolding kept read_text
records_of t = kept (read_text t)
