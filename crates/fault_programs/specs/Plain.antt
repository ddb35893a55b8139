-- The faults that do not depend on parents: refusals, and names that can't be written.
use Rattle.std.specs.Prelude.{ℕ, zero, suc, ◌+◌, cond, List, [], ◌∷◌}
use Rattle.format.specs.Records.{Line, refused_line, read}
use Rattle.tidy_line.specs.Line.{line_writable}

-- the fault of one line: `n` is 0 if the line is kept
unfoldable pub plain_at : ℕ → Line → ℕ
unfolding line_writable
plain_at zero l = cond (line_writable l) 0 24
plain_at (suc n) l = suc n

-- 1 for a fault, and 0 for none
unfoldable pub one_if : ℕ → ℕ
one_if zero = 0
one_if (suc n) = 1

-- how many of some lines have such a fault
unfoldable pub plain_count : List Line → ℕ
unfolding one_if plain_at
plain_count [] = 0
plain_count (refused_line n ∷ ls) = 1 + plain_count ls
plain_count (read r ∷ ls) = one_if (plain_at 0 (read r)) + plain_count ls
