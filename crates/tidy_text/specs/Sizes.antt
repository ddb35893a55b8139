-- How many bytes the records of each kind take in the tidy text.
use Rattle.std.specs.Prelude.{cond, List, Option, Some, None, length}
use Rattle.format.specs.Records.{Record, Line}
use Rattle.format.specs.declared.Kind.{Kind}
use Rattle.tidy_line.specs.Line.{line_text, line_writable}
use Rattle.tidy_sizes.specs.Numbers.{each, plus}
use Rattle.tidy_sizes.specs.declared.PerKind.{PerKind}
use Rattle.tidy_text.specs.Kinds.{text_of_kind}

-- the sizes with a line of the kind `j`, if its record can be written
unfoldable pub grown_by : Kind → Line → PerKind → Option PerKind
unfolding line_writable line_text plus
grown_by j l s = cond (line_writable l) (Some (plus j (length (line_text l)) s)) None

-- how many bytes the records of each kind take
unfoldable pub sizes_of : List Record → PerKind
unfolding text_of_kind
sizes_of rs = each (λ k. length (text_of_kind k rs))
