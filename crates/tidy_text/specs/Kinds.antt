-- The kind and the text of a line, and the text of a kind.
use Rattle.std.specs.Prelude.{ℕ, Bool, cond, List, [], ◌++◌, get_or, eqb}
use Rattle.format.specs.Records.{Record, code, Line, refused_line, read, line}
use Rattle.format.specs.Reading.{of_kind}
use Rattle.format.specs.Tidy.{record_text, text}
use Rattle.format.specs.declared.Kind.{Kind}
use Rattle.format.specs.declared.Kind.TheVariants.{Header, ReferenceSequence, ReadGroup, Program}
use Rattle.accepted_line.specs.Found.{kind_by}
use Rattle.tidy_line.specs.Line.{line_text}
use Rattle.tidy_sizes.specs.Numbers.{kind_number}

-- the kind of an accepted line
abbrev pub line_kind : List ℕ → Kind
line_kind s = kind_by (get_or s 1 0)

-- what the tidy text has for the line `s` at the offset `at`
abbrev pub tidy_line : Bool → ℕ → List ℕ → List ℕ
tidy_line strict at s = line_text (line strict (record { at = at; bytes = s }))

-- the same, if it is of a kind
unfoldable pub kind_text : Kind → Line → List ℕ
unfolding kind_number code record_text
kind_text k (refused_line n) = []
kind_text k (read r) = cond (eqb (code r) (kind_number k)) (record_text r) []

-- the records of a kind, in text order
unfoldable pub text_of_kind : Kind → List Record → List ℕ
unfolding text of_kind kind_number
text_of_kind k rs = text (of_kind (kind_number k) rs)

-- all records but the comments, kind by kind
unfoldable pub front_text : List Record → List ℕ
unfolding text_of_kind
front_text rs = text_of_kind Header rs ++ text_of_kind ReferenceSequence rs ++ text_of_kind ReadGroup rs ++ text_of_kind Program rs
