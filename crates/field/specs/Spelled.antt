-- The answers of the readers of a version, in terms of the definitions of `format`.
use Rattle.std.specs.Prelude.{ℕ, suc, ◌≡◌, true, List, Option, Some, None}
use Rattle.std.proofs.Math.Option as maybe
use Rattle.format.specs.declared.Version.{Version}
use Rattle.format.specs.Fields.{is_value, refused_piece, version_field}

-- one side of a version's dot
unfoldable pub version_side_of : maybe.Option ℕ → Option ℕ
version_side_of maybe.none = None
version_side_of (maybe.some n) = Some n

-- a version, if there is one
unfoldable pub parsed_version_of : maybe.Option Version → Option Version
parsed_version_of maybe.none = None
parsed_version_of (maybe.some v) = Some v

-- the refusal of each answer for VN of HD, and 0 for a version
unfoldable pub version_refusal : Option Version → ℕ
version_refusal None = 11
version_refusal (Some v) = 0

-- VN of HD with the value `v`, for whose version `r` is the answer: if that is a refusal, the field is refused with its number
abbrev pub VersionTold : List ℕ → Option Version → Type 0
VersionTold v r = (at n : ℕ) → is_value v ≡ true → version_refusal r ≡ suc n → version_field at v ≡ refused_piece (suc n)
