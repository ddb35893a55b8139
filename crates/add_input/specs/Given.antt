-- What the given fields must satisfy, and where the given PP is.
use Rattle.std.specs.Prelude.{Bool, Option, Some, None, not, ◌||◌, length, eqb}
use Rattle.std.proofs.Math.Option as maybe
use Rattle.std.proofs.Math.Option.{none, some}
use Rattle.format.specs.Bytes.{any}
use Rattle.format.specs.Lines.{Piece}
use Rattle.format.specs.Fields.{tagged, Scan, repeats}
use Rattle.record.specs.declared.Stretch.{Stretch}

-- what `misformed` says of the fields by themselves: they are not in form, ID is among them, or a tag comes twice
unfoldable pub marred : Scan → Bool
unfolding any repeats tagged
marred s = not (eqb s.stop 0) || any (tagged 73 68) s.fields || repeats s.fields

-- a value's offset and its length
unfoldable pub given_of : maybe.Option Piece → Option Stretch
given_of none = None
given_of (some p) = Some (record { at = p.at; len = length p.bytes })
