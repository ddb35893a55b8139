-- The PG lines of a text from an offset on, what the next of them gives, and what is noted of each.
use Rattle.std.specs.Prelude.{ℕ, ◌+◌, ◌≤◌, ◌<◌, Bool, cond, Option, Some, None, List, [], ◌∷◌, map, length, take, drop, get_or, eqb}
use Rattle.format.specs.Lines.{Piece, lines_from}
use Rattle.program_chains.specs.Parents.{in_array}
use Rattle.catalogue_entries.specs.declared.Place.{Place}
use Rattle.program_ids.specs.Places.{nowhere}
use Rattle.record.specs.declared.Stretch.{Stretch}
use Rattle.accepted_line.specs.Next.{last_in}
use Rattle.program_places.specs.declared.Places.{Places}
use Rattle.program_places.specs.Gathered.{ProgramPlaces}
use Rattle.program_lines.specs.declared.NextLine.{NextLine}

-- is the second byte of a line `P`?
unfoldable pub may_be_program : List ℕ → Bool
may_be_program s = eqb (get_or s 1 0) 80

-- the PG lines among some lines
unfoldable pub program_lines : List Piece → List Piece
unfolding may_be_program
program_lines [] = []
program_lines (p ∷ ps) = cond (may_be_program p.bytes) (p ∷ program_lines ps) (program_lines ps)

-- the PG lines from the offset `at` of the text `t` on
abbrev pub pg_from : List ℕ → ℕ → List Piece
pg_from t at = program_lines (lines_from at (drop at t))

-- a line that is found
unfoldable pub told_line : List ℕ → NextLine → Piece
told_line t r = record { at = r.at; bytes = take r.len (drop r.at t) }

-- the lines in an answer: its own and those after it, or none
unfoldable pub told_lines : List ℕ → Option NextLine → List Piece
unfolding told_line program_lines
told_lines t None = []
told_lines t (Some r) = told_line t r ∷ pg_from t r.next

-- where a line that is found and the next line are in the text
pub record NextLineInText (t : List ℕ) (start : ℕ) (r : NextLine) : Type 0 where
  pub line : r.at + r.len ≤ length t
  pub onward : start < r.next
  pub within : r.next ≤ length t

-- ---- what is noted

unfoldable pub place_of : Stretch → Place
place_of v = record { at = v.at; len = v.len }

-- no value is at the offset 0
unfoldable pub previous_of : Stretch → Place
unfolding nowhere place_of
previous_of v = cond (eqb v.at 0) nowhere (place_of v)

-- what is noted of a line: its ID and its PP
unfoldable pub notes_of : Piece → ProgramPlaces
unfolding place_of previous_of last_in
notes_of p = record { id = place_of (last_in p.at p.bytes 73 68); previous = previous_of (last_in p.at p.bytes 80 80) }

-- where the lines are, in arrays
unfoldable pub lines_of : List Piece → Places
unfolding in_array
lines_of ps = record { at = in_array (map (λ p. p.at) ps); len = in_array (map (λ p. length p.bytes) ps) }
