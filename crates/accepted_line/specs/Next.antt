-- A field on a walk over a line: whether it is the first with its tag, its value, and the last value of its tag from there on.
use Rattle.std.specs.Prelude.{ℕ, ◌+◌, ◌-◌, Bool, not, List, length, get_or}
use Rattle.std.proofs.Math.Option.{Option, none, some}
use Rattle.format.specs.Bytes.{any}
use Rattle.format.specs.Lines.{Piece}
use Rattle.format.specs.Fields.{Field, tagged, last_of}
use Rattle.format.specs.Tidy.{field_text}
use Rattle.accepted_line.specs.Run.{fields_of, fields_to, fields_from}
use Rattle.record.specs.declared.Stretch.{Stretch}

-- how many bytes a field takes: a tab, two tag bytes, a colon, a value
unfoldable pub field_length : Field → ℕ
unfolding field_text
field_length f = length (field_text f.tag₀ f.tag₁ f.value.bytes)

-- is the field at the place `i` the first with its tag?
unfoldable pub is_first : ℕ → List ℕ → ℕ → Bool
unfolding any tagged fields_of
is_first at line i = not (any (tagged (get_or line (i + 1) 0) (get_or line (i + 2) 0)) (fields_to at line i))

-- where a piece is
abbrev pub value_of_piece : Piece → Stretch
value_of_piece p = record { at = p.at; len = length p.bytes }

-- the place of the piece, or `v` if there is none
unfoldable pub or_value : Stretch → Option Piece → Stretch
or_value v none = v
or_value v (some p) = value_of_piece p

-- no value
abbrev pub no_value : Stretch
no_value = record { at = 0; len = 0 }

-- the last value of a tag in a line
unfoldable pub last_in : ℕ → List ℕ → ℕ → ℕ → Stretch
unfolding or_value last_of fields_of
last_in at line a b = or_value no_value (last_of a b (fields_from at line 3))

-- the value of the field from the tab at `i` up to `end`
abbrev pub value_at : ℕ → ℕ → ℕ → Stretch
value_at at i end = record { at = at + i + 4; len = end - (i + 4) }

-- the last value of its tag from there on
unfoldable pub kept_at : ℕ → List ℕ → ℕ → ℕ → Stretch
unfolding or_value last_of fields_of
kept_at at line i end = or_value (value_at at i end) (last_of (get_or line (i + 1) 0) (get_or line (i + 2) 0) (fields_from at line end))
