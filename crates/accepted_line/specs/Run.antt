-- The fields that a run of bytes is cut into, and a place in an accepted line at which a field starts or the line ends.
use Rattle.std.specs.Prelude.{ℕ, ◌+◌, ◌-◌, ◌≤◌, ◌≡◌, Bool, false, ◌&&◌, List, [], ◌∷◌, ◌++◌, map, length, take, drop, get_or}
use Rattle.format.specs.Lines.{Piece, cut, placed}
use Rattle.format.specs.Fields.{Field, repeats}
use Rattle.format.specs.Tidy.{fields_text}
use Rattle.byte_slices.specs.Stands.{Each}
use Rattle.record_tags.proofs.Region.{Clean}

-- a piece between tabs: two tag bytes, a colon, a value. Nothing is judged
unfoldable pub field_of : Piece → Field
field_of p = record { tag₀ = get_or p.bytes 0 0; tag₁ = get_or p.bytes 1 0; value = record { at = p.at + 3; bytes = drop 3 p.bytes } }

-- the fields of a run of bytes at the offset `at`, each with a tab before it
unfoldable pub fields_of : ℕ → List ℕ → List Field
unfolding field_of placed cut
fields_of at [] = []
fields_of at (b ∷ s) = map field_of (placed (at + 1) (cut 9 s))

-- `s` at the offset `at` is the fields `fs`, one after another
pub record Runs (at : ℕ) (s : List ℕ) (fs : List Field) : Type 0 where
  pub spells : s ≡ fields_text fs
  pub clean : Each Clean fs
  pub places : fields_of at s ≡ fs

-- the fields of a line before the place `pos`, after the `@` and the two kind bytes
abbrev pub fields_to : ℕ → List ℕ → ℕ → List Field
fields_to at line pos = fields_of (at + 3) (take (pos - 3) (drop 3 line))

-- the fields from the place `pos` on
abbrev pub fields_from : ℕ → List ℕ → ℕ → List Field
fields_from at line pos = fields_of (at + pos) (drop pos line)

-- at `pos` a field of the line starts, or the line ends; if `strict` forbids repeated tags, the line has none
pub record AtField (strict : Bool) (at : ℕ) (line : List ℕ) (pos : ℕ) : Type 0 where
  pub from : 3 ≤ pos
  pub within : pos ≤ length line
  pub done : Runs (at + 3) (take (pos - 3) (drop 3 line)) (fields_to at line pos)
  pub rest : Runs (at + pos) (drop pos line) (fields_from at line pos)
  pub once : strict && repeats (fields_to at line pos ++ fields_from at line pos) ≡ false
