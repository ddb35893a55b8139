-- How many bytes at the front of a SAM file belong to its header: all lines from the first on that start with `@`, including their endings.
use Rattle.std.specs.Prelude.{ℕ, Bool, false, cond, List, [], ◌∷◌, length, eqb}
use Rattle.format.specs.Lines.{Piece, lines}

-- does it start with `@`?
unfoldable pub headed : List ℕ → Bool
headed [] = false
headed (b ∷ s) = eqb b 64

-- where the first of some lines starts that does not start with `@`: `end` if there is none
unfoldable pub other_line : ℕ → List Piece → ℕ
unfolding headed
other_line end [] = end
other_line end (p ∷ ps) = cond (headed p.bytes) (other_line end ps) p.at

unfoldable pub text_len : List ℕ → ℕ
unfolding other_line lines
text_len s = other_line (length s) (lines s)
