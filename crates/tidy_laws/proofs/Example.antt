-- Document 01's example: a text for which all the laws hold, and its tidy text.
use Prim.Native.Nat.{ℕ}
use mathlib.Core.Path.{◌≡◌, refl}
use mathlib.Core.List.{List, [], ◌∷◌}
use native.Mathlib.Omega.{arith}
use Rattle.format.specs.Records.{Record}
use Rattle.format.specs.Tidy.{unwritable}
use Rattle.format.specs.Calls.{Answer, refused, yes, records}
use Rattle.format.proofs.Ascii.{ascii}
use Rattle.tidy_laws.specs.Faithful.{Allowed, tidied}

unfoldable pub given : List ℕ
unfolding ascii
given = ascii "@HD\tSO:unsorted\tVN:01.6\n@PG\tID:a\n@SQ\tLN:08\tSN:s1\n@CO\tx"

-- the records that are answered
pub answered : Answer (List Record) → List Record
answered (refused n l) = []
answered (yes rs) = rs

pub example-allowed : Allowed given (answered (records given))
unfolding ascii given answered records unwritable
example-allowed = record { accepted = refl; small = omega arith; names = refl }

pub example-tidied : tidied given ≡ yes (ascii "@HD\tVN:1.6\tSO:unsorted\n@SQ\tSN:s1\tLN:8\n@PG\tID:a\n@CO\tx\n")
unfolding ascii given tidied
example-tidied = refl
