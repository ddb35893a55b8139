-- The answer of reading one field, in terms of the definitions of `format`, as plain numbers; or the number of its refusal.
use Rattle.std.specs.Prelude.{ℕ, cond, length, Result, Ok, Err}
use Rattle.std.proofs.Math.Option.{Option, none, some}
use Rattle.format.specs.declared.Kind.{Kind}
use Rattle.format.specs.declared.Version.{Version}
use Rattle.format.specs.Decimal.{worth}
use Rattle.format.specs.Fields.{JudgedPiece, refused_piece, good, good_then}
use Rattle.format.specs.Fields as fields
use Rattle.format.specs.Version.{version}
use Rattle.decimal.specs.declared.Number.{Number}
use Rattle.field_tag.specs.Numbers.{is_version, is_length}
use Rattle.field_length.specs.declared.LengthError.{LengthError}
use Rattle.field_length.specs.Parsed.{length_refusal}
use Rattle.field.specs.declared.ParsedField.{ParsedField}

-- a value of `n` bytes that is kept as it is
abbrev pub kept_by : ℕ → ℕ → ℕ → ParsedField
kept_by a b n = record { tag_0 = a; tag_1 = b; len = n; major = 0; minor = 0; length = 0 }

-- VN of HD, whose value has `n` bytes, with its version
unfoldable pub versioned_by : ℕ → Option Version → Result ParsedField ℕ
versioned_by n none = Err 11
versioned_by n (some v) = Ok (record { tag_0 = 86; tag_1 = 78; len = n; major = v.major; minor = v.minor; length = 0 })

-- LN of SQ, whose value has `n` bytes, with its number
abbrev pub sized_by : ℕ → ℕ → ParsedField
sized_by n l = record { tag_0 = 76; tag_1 = 78; len = n; major = 0; minor = 0; length = l }

-- LN of SQ, from the answer of reading its number
unfoldable pub length_field_by : Result Number LengthError → Result ParsedField ℕ
unfolding length_refusal
length_field_by (Err e) = Err (length_refusal (Err e))
length_field_by (Ok n) = Ok (sized_by n.len n.value)

-- a field of a record of kind `k`: VN of HD has its version, LN of SQ its number
unfoldable pub field_numbers : Kind → fields.Field → Result ParsedField ℕ
unfolding versioned_by is_version is_length version worth
field_numbers k f =
    cond (is_length k f.tag₀ f.tag₁) (Ok (sized_by (length f.value.bytes) (worth f.value.bytes)))
    (cond (is_version k f.tag₀ f.tag₁) (versioned_by (length f.value.bytes) (version f.value.bytes))
    (Ok (kept_by f.tag₀ f.tag₁ (length f.value.bytes))))

-- the refusal, or the field; what may follow its value is judged with the next field
unfoldable pub parsed_of : Kind → JudgedPiece → Result ParsedField ℕ
unfolding field_numbers
parsed_of k (refused_piece n) = Err n
parsed_of k (good f) = field_numbers k f
parsed_of k (good_then f n) = field_numbers k f
