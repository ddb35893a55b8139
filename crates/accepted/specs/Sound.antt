-- What every record of an accepted line satisfies: its numbers fit, its values are values, and its other fields are not keys.
use Rattle.std.specs.Prelude.{ℕ, ◌^◌, ◌≤◌, ◌<◌, ◌≡◌, Bool, true, false, eqb}
use Rattle.std.proofs.Math.Option.{Option, none, some}
use Rattle.format.specs.Lines.{Piece}
use Rattle.format.specs.Fields.{Field, is_value, allows, is_tag, repeats}
use Rattle.format.specs.Records.{Record, header, reference, group, program, comment, key, others}
use Rattle.format.specs.declared.Kind.{Kind}
use Rattle.format.specs.declared.Kind.TheVariants.{Header, ReferenceSequence, ReadGroup, Program, Comment}
use Rattle.format.specs.Keys.{is_key}
use Rattle.byte_slices.specs.Stands.{Each}

unfoldable pub kind : Record → Kind
kind (header v fs) = Header
kind (reference p n fs) = ReferenceSequence
kind (group p fs) = ReadGroup
kind (program p fs) = Program
kind (comment p) = Comment

-- a version's two numbers, and a length
unfoldable pub FitsRecord : Record → Type 0
FitsRecord (header v fs) = (v.major < 2 ^ 32) × (v.minor < 2 ^ 32)
FitsRecord (reference p n fs) = (1 ≤ n) × (n < 2 ^ 31)
FitsRecord (group p fs) = Unit
FitsRecord (program p fs) = Unit
FitsRecord (comment p) = Unit

-- a key, if there is one, is a value
unfoldable pub KeyIsValue : Option Piece → Type 0
unfolding is_value
KeyIsValue none = Unit
KeyIsValue (some p) = is_value p.bytes ≡ true

-- a field of a record of kind `k` that is not a key
pub record Other (k : Kind) (f : Field) : Type 0 where
  pub tag : is_tag f.tag₀ f.tag₁ ≡ true
  pub no_key : is_key k f.tag₀ f.tag₁ ≡ false
  pub value : allows k f.tag₀ f.tag₁ f.value.bytes ≡ true

pub record Sound (r : Record) : Type 0 where
  pub fits : FitsRecord r
  pub named : KeyIsValue (key r)
  pub other : Each (Other (kind r)) (others r)
  pub once : repeats (others r) ≡ false
