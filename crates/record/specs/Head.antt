-- The answer of reading one line: the refusal, or the head of the record.
use Rattle.std.specs.Prelude.{Bool, true, false, length}
use Rattle.format.specs.Lines.{Piece}
use Rattle.format.specs.Records.{Record, header, reference, group, program, comment, Line, refused_line, read}
use Rattle.record.specs.declared.Stretch.{Stretch}
use Rattle.record.specs.declared.Head.{Head}
use Rattle.record.specs.declared.Head.TheVariants as head

unfoldable pub stretch_of : Piece → Stretch
stretch_of p = record { at = p.at; len = length p.bytes }

-- a record's kind, its version or key, its length, and how many other fields it has
unfoldable pub record_head : Record → Head
unfolding stretch_of
record_head (header v fs) = head.Header v (length fs)
record_head (reference p n fs) = head.ReferenceSequence (stretch_of p) n (length fs)
record_head (group p fs) = head.ReadGroup (stretch_of p) (length fs)
record_head (program p fs) = head.Program (stretch_of p) (length fs)
record_head (comment p) = head.Comment (stretch_of p)

unfoldable pub head_of : Line → Head
unfolding record_head
head_of (refused_line n) = head.Refused n
head_of (read r) = record_head r

-- is it the head of a record with fields?
unfoldable pub has_fields : Head → Bool
has_fields (head.Refused n) = false
has_fields (head.Header v n) = true
has_fields (head.ReferenceSequence p l n) = true
has_fields (head.ReadGroup p n) = true
has_fields (head.Program p n) = true
has_fields (head.Comment p) = false
