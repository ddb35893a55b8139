-- Equal records and equal headers. Where a key, a value or a comment was in the text doesn't count.
use Rattle.std.specs.Prelude.{ℕ, ◌≡◌, List, map}
use Rattle.format.specs.Lines.{Piece}
use Rattle.format.specs.Fields.{Field}
use Rattle.format.specs.Records.{Record, header, reference, group, program, comment}
use Rattle.format.specs.Reading.{of_kind}

-- bytes without a place
unfoldable pub bare_bytes : List ℕ → Piece
bare_bytes s = record { at = 0; bytes = s }

unfoldable pub bare_field : Field → Field
unfolding bare_bytes
bare_field f = record { tag₀ = f.tag₀; tag₁ = f.tag₁; value = bare_bytes f.value.bytes }

-- a record without its offsets: two records are equal if these are
unfoldable pub bare : Record → Record
unfolding bare_field bare_bytes
bare (header v fs) = header v (map bare_field fs)
bare (reference p n fs) = reference (bare_bytes p.bytes) n (map bare_field fs)
bare (group p fs) = group (bare_bytes p.bytes) (map bare_field fs)
bare (program p fs) = program (bare_bytes p.bytes) (map bare_field fs)
bare (comment p) = comment (bare_bytes p.bytes)

-- the records of a kind, for equality
unfoldable pub bares : ℕ → List Record → List Record
unfolding bare of_kind
bares k rs = map bare (of_kind k rs)

-- two headers are equal: their HD and their SQ, RG, PG and CO lists are
pub record Equal (rs qs : List Record) : Type 0 where
  pub hd : bares 1 rs ≡ bares 1 qs
  pub sq : bares 2 rs ≡ bares 2 qs
  pub rg : bares 3 rs ≡ bares 3 qs
  pub pg : bares 4 rs ≡ bares 4 qs
  pub co : bares 5 rs ≡ bares 5 qs
