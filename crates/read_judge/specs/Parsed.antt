-- What a line is parsed to while it is not known that a tag is repeated.
use Rattle.std.specs.Prelude.{Bool, true, ◌&&◌, ◌||◌}
use Rattle.format.specs.Lines.{Piece}
use Rattle.format.specs.Records.{line}
use Rattle.accepted.specs.Read.{is_read}
use Rattle.record.specs.Head.{head_of}
use Rattle.read_judge.specs.declared.Parsed.{Parsed}

-- its head by the text's rule; and whether the lines up to its end are known to be accepted by the strict one
unfoldable pub parsed_by : Bool → Bool → Piece → Parsed
unfolding head_of line is_read
parsed_by strict once p = record { head = head_of (line strict p); once = once && (strict || is_read (line true p)) }
