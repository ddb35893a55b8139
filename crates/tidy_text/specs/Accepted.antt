-- The records of an accepted text, from reading it and line by line, and the names that can't be written.
use Rattle.std.specs.Prelude.{ℕ, ◌≡◌, Bool, true, ◌&&◌, List, Result, Ok, Err, [], ◌∷◌, drop}
use Rattle.std.proofs.Math.Option.{Option, none, some}
use Rattle.format.specs.Lines.{Piece, lines_from}
use Rattle.format.specs.Records.{Record, Line, refused_line, read, line}
use Rattle.format.specs.Calls.{Answer, refused, yes, writing}
use Rattle.accepted.specs.Read.{is_read}
use Rattle.tidy_sizes.specs.declared.PerKind.{PerKind}
use Rattle.format.specs.declared.LineNo.{LineNo}

-- the sizes of the tidy text, or the line of the first SQ whose name can't be written
unfoldable pub measured_of : Option ℕ → PerKind → Result PerKind LineNo
measured_of none n = Ok n
measured_of (some l) n = Err (record { 0 = l })

-- what each answer says: 24 on the line of that SQ, or the sizes
unfoldable pub measured_answer : Result PerKind LineNo → Answer PerKind
measured_answer (Err l) = refused 24 l.0
measured_answer (Ok n) = yes n

-- `r` answers with the sizes of a text, and `o` is the line of its first SQ that can't be written: if `r` is a refusal, writing is refused with it
abbrev pub MeasuredTold : Option ℕ → Result PerKind LineNo → Type 0
MeasuredTold o r = (room n l : ℕ) (t : List ℕ) → measured_answer r ≡ refused n l → writing room o t ≡ refused n l

-- ---- line by line

-- the record of a line before those of the lines after it
unfoldable pub with_record : Line → List Record → List Record
with_record (refused_line n) rs = rs
with_record (read r) rs = r ∷ rs

unfoldable pub line_records : Bool → List Piece → List Record
unfolding with_record line
line_records strict [] = []
line_records strict (p ∷ ps) = with_record (line strict p) (line_records strict ps)

unfoldable pub all_read : Bool → List Piece → Bool
unfolding is_read line
all_read strict [] = true
all_read strict (p ∷ ps) = is_read (line strict p) && all_read strict ps

-- the records of the lines from the offset `at` of the text `t` on
abbrev pub records_from : Bool → List ℕ → ℕ → List Record
records_from strict t at = line_records strict (lines_from at (drop at t))
