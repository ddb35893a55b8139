-- `field::parse_version_value` meets its contract: the value is read as a version.
use Prim.Native.Nat.{ℕ}
use mathlib.Core.Path.{◌≡◌, refl, sym, ap, ◌∙◌}
use Rattle.std.proofs.Math.Option as maybe
use Rattle.std.specs.Prelude.{Option, Some, None, Result, Ok, Err}
use Rattle.format.specs.declared.Version.{Version}
use Rattle.field.specs.Spelled.{parsed_version_of}
use Rattle.field.specs.Parsed.{versioned_by}
use Rattle.field.specs.declared.ParsedField.{ParsedField}
use Rattle.field.proofs.parse_version_value.Goals as goal

-- by what was read
version_by : ℕ → Option Version → Result ParsedField ℕ
version_by n None = Err 11
version_by n (Some v) = Ok (record { tag_0 = 86; tag_1 = 78; len = n; major = v.major; minor = v.minor; length = 0 })

by-spelled : (n : ℕ) (o : maybe.Option Version) → version_by n (parsed_version_of o) ≡ versioned_by n o
unfolding versioned_by parsed_version_of version_by
by-spelled n maybe.none = refl
by-spelled n (maybe.some v) = refl

pub returns-in-None : goal.returns-in-None
unfolding version_by
returns-in-None c =
    ap (version_by _) (sym c.in-None.is ∙ c.parse_version.ensures.is) ∙ by-spelled _ _

pub returns-in-Some : goal.returns-in-Some
unfolding version_by
returns-in-Some c =
    let v = c.in-Some.version in
    ap (λ (g : ParsedField). Ok (record g { major = v.major; minor = v.minor })) c.kept.ensures
    ∙ ap (version_by _) (sym c.in-Some.is ∙ c.parse_version.ensures.is)
    ∙ by-spelled _ _
