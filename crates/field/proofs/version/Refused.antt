-- Where VN of HD is a value that spells no version, its field is refused with the number of that answer.
use Prim.Native.Nat.{ℕ, suc}
use mathlib.Core.Path.{◌≡◌, sym, ap, ◌∙◌}
use mathlib.Core.Bool.{cond}
use mathlib.Core.List.{List}
use mathlib.Core.Option.{Option, none, some}
use native.Mathlib.Omega.{arith}
use Rattle.std.specs.Prelude as prelude
use Rattle.format.specs.Version.{version}
use Rattle.format.specs.Fields.{JudgedPiece, refused_piece, plain, spelled, version_field}
use Rattle.format.specs.declared.Version.{Version}
use Rattle.format.specs.declared.Kind.TheVariants.{Header}
use Rattle.field.specs.Spelled.{parsed_version_of, version_refusal, VersionTold}

pub version-refused : (v : List ℕ) → VersionTold v (parsed_version_of (version v))
unfolding version_refusal parsed_version_of spelled version_field
version-refused v at n i e =
    let j : JudgedPiece = plain Header 86 78 at v in
    ap (λ b. cond b (spelled (version v) j) (refused_piece 10)) i ∙ go (version v) j e
  where
    go : (o : Option Version) (j : JudgedPiece) → version_refusal (parsed_version_of o) ≡ suc n → spelled o j ≡ refused_piece (suc n)
    go none j e = ap refused_piece e
    go (some w) j e = absurd (omega (arith, e))

-- whatever is answered as it is there
pub version-told : (v : List ℕ) (r : prelude.Option Version) → r ≡ parsed_version_of (version v) → (r ≡ parsed_version_of (version v)) × VersionTold v r
version-told v r e = (e, λ at n i h. version-refused v at n i (ap version_refusal (sym e) ∙ h))
