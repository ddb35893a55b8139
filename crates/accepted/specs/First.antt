-- The first of the lines from an offset on.
use Rattle.std.specs.Prelude.{ℕ, List, take, drop}
use Rattle.format.specs.Lines.{Piece}
use Rattle.byte_slices.specs.First.{first_line}

-- the line at an offset, without its ending
abbrev pub first_at : ℕ → List ℕ → Piece
first_at at t = record { at = at; bytes = take (first_line (drop at t)).len (drop at t) }
