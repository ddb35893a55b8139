-- An accepted line taken apart: its kind, its fields, and how they make its record.
use Rattle.std.specs.Prelude.{ℕ, ◌+◌, ◌^◌, ◌≤◌, ◌<◌, ◌≡◌, Bool, true, false, ◌&&◌, List, ◌∷◌}
use Rattle.std.proofs.Math.Option.{some}
use Rattle.format.specs.Lines.{Piece, cut, placed}
use Rattle.format.specs.Decimal.{worth, digits}
use Rattle.format.specs.Fields.{Field, tagged, allows, is_tag, repeats, last_of, settled, without}
use Rattle.format.specs.Records.{Record, header, reference, group, program, comment}
use Rattle.format.specs.Version.{version}
use Rattle.format.specs.declared.Version.{Version}
use Rattle.format.specs.declared.Kind.{Kind}
use Rattle.format.specs.declared.Kind.TheVariants.{Header, ReferenceSequence, ReadGroup, Program, Comment}
use Rattle.lists.specs.Pairs.{Pairs}

-- LN of SQ is a number from 1 to 2 ^ 31 - 1, all digits
unfoldable pub LengthInRange : Kind → Field → Type 0
unfolding tagged worth digits
LengthInRange Header f = Unit
LengthInRange ReferenceSequence f = tagged 76 78 f ≡ true → (1 ≤ worth f.value.bytes) × (worth f.value.bytes < 2 ^ 31) × (digits f.value.bytes ≡ true)
LengthInRange ReadGroup f = Unit
LengthInRange Program f = Unit
LengthInRange Comment f = Unit

-- the piece `s` at the offset `at` is the field `f`: its tag, a colon, its value
pub record Good (k : Kind) (at : ℕ) (s : List ℕ) (f : Field) : Type 0 where
  pub place : f.value.at ≡ at + 3
  pub spells : s ≡ f.tag₀ ∷ f.tag₁ ∷ 58 ∷ f.value.bytes
  pub tag : is_tag f.tag₀ f.tag₁ ≡ true
  pub value : allows k f.tag₀ f.tag₁ f.value.bytes ≡ true
  pub sized : LengthInRange k f

-- the record that the fields `fs` of a line of kind `k` make
pub data Made (fs : List Field) : Kind → Record → Type 0 where
  of-header : (p : Piece) (v : Version) → last_of 86 78 fs ≡ some p → version p.bytes ≡ some v → Made fs Header (header v (settled (without 86 78 fs)))
  of-reference : (p n : Piece) → last_of 83 78 fs ≡ some p → last_of 76 78 fs ≡ some n
      → Made fs ReferenceSequence (reference p (worth n.bytes) (settled (without 83 78 (without 76 78 fs))))
  of-group : (p : Piece) → last_of 73 68 fs ≡ some p → Made fs ReadGroup (group p (settled (without 73 68 fs)))
  of-program : (p : Piece) → last_of 73 68 fs ≡ some p → Made fs Program (program p (settled (without 73 68 fs)))

-- the two kind bytes
unfoldable pub kind₀ : Kind → ℕ
kind₀ Header = 72
kind₀ ReferenceSequence = 83
kind₀ ReadGroup = 82
kind₀ Program = 80
kind₀ Comment = 67

unfoldable pub kind₁ : Kind → ℕ
kind₁ Header = 68
kind₁ ReferenceSequence = 81
kind₁ ReadGroup = 71
kind₁ Program = 71
kind₁ Comment = 79

-- `@`, two kind bytes, a tab, then fields with a tab between each two
pub record Spelled (strict : Bool) (at : ℕ) (s : List ℕ) (r : Record) : Type 0 where
  pub kind : Kind
  pub rest : List ℕ
  pub fields : List Field
  pub spells : s ≡ 64 ∷ kind₀ kind ∷ kind₁ kind ∷ 9 ∷ rest
  pub each : Pairs (λ p f. Good kind p.at p.bytes f) (placed (at + 4) (cut 9 rest)) fields
  pub once : strict && repeats fields ≡ false
  pub made : Made fields kind r

-- an accepted line is a comment or consists of fields
pub data AcceptedLine (strict : Bool) (at : ℕ) : List ℕ → Record → Type 0 where
  of-remark : (s : List ℕ) → AcceptedLine strict at (64 ∷ 67 ∷ 79 ∷ 9 ∷ s) (comment (record { at = at + 4; bytes = s }))
  of_fields : {s : List ℕ} {r : Record} → Spelled strict at s r → AcceptedLine strict at s r
