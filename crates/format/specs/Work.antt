-- Calls with a lent work area (Req 13): its use can't be seen in the answer, and afterwards it is all zeros, whatever the answer is.
use Rattle.std.specs.Prelude.{ℕ, List, length, replicate}
use Rattle.format.specs.Calls.{Answer, reading}

-- the area at exit, whatever its length and content were
unfoldable pub all_zeros : List ℕ → List ℕ
all_zeros work = replicate (length work) 0

-- the answer of reading, and the area
unfoldable pub reading_with : List ℕ → ℕ → List ℕ → Answer (List ℕ) × List ℕ
unfolding reading all_zeros
reading_with text room work = (reading text room, all_zeros work)
