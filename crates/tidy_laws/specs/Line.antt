-- The line that the tidy text has for a record, and its fields at their places in it.
use Rattle.std.specs.Prelude.{ℕ, ◌+◌, ◌≡◌, false, List, [], ◌∷◌, ◌++◌, length}
use Rattle.format.specs.Bytes.{any}
use Rattle.format.specs.Decimal.{written}
use Rattle.format.specs.Fields.{Field}
use Rattle.format.specs.Records.{Record, header, reference, group, program, comment, breaks}
use Rattle.format.specs.Tidy.{fields_text}
use Rattle.tidy_laws.specs.Bare.{bare_bytes}

-- a field whose value has no place in a text
unfoldable pub own : ℕ → ℕ → List ℕ → Field
unfolding bare_bytes
own a b v = record { tag₀ = a; tag₁ = b; value = bare_bytes v }

-- what comes first in a line: VN; SN and LN; ID
unfoldable pub keys : Record → List Field
unfolding own
keys (header v fs) = own 86 78 (written v.major ++ (46 ∷ written v.minor)) ∷ []
keys (reference p n fs) = own 83 78 p.bytes ∷ own 76 78 (written n) ∷ []
keys (group p fs) = own 73 68 p.bytes ∷ []
keys (program p fs) = own 73 68 p.bytes ∷ []
keys (comment p) = []

-- a record's line without its LF
unfoldable pub record_line : Record → List ℕ
record_line (header v fs) = 64 ∷ 72 ∷ 68 ∷ fields_text (keys (header v fs) ++ fs)
record_line (reference p n fs) = 64 ∷ 83 ∷ 81 ∷ fields_text (keys (reference p n fs) ++ fs)
record_line (group p fs) = 64 ∷ 82 ∷ 71 ∷ fields_text (keys (group p fs) ++ fs)
record_line (program p fs) = 64 ∷ 80 ∷ 71 ∷ fields_text (keys (program p fs) ++ fs)
record_line (comment p) = 64 ∷ 67 ∷ 79 ∷ 9 ∷ p.bytes

-- what is between two tabs: a tag, a colon, a value
unfoldable pub piece_text : Field → List ℕ
piece_text f = f.tag₀ ∷ f.tag₁ ∷ 58 ∷ f.value.bytes

-- a field whose value is at `at`
unfoldable pub put-at : ℕ → Field → Field
put-at at f = record { tag₀ = f.tag₀; tag₁ = f.tag₁; value = record { at = at; bytes = f.value.bytes } }

-- fields one after another with a tab between them, where the first starts at `at`
unfoldable pub located : ℕ → List Field → List Field
unfolding put-at piece_text
located at [] = []
located at (f ∷ fs) = put-at (at + 3) f ∷ located (at + length (piece_text f) + 1) fs

-- a comment holds neither LF nor CR
unfoldable pub Unbroken : Record → Type 0
unfolding any breaks
Unbroken (header v fs) = Unit
Unbroken (reference p n fs) = Unit
Unbroken (group p fs) = Unit
Unbroken (program p fs) = Unit
Unbroken (comment p) = any breaks p.bytes ≡ false
