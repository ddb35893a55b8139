-- Two texts of which lines are skipped: the tidy text of the rest, and the table.
use Prim.Native.Nat.{ℕ}
use mathlib.Core.Path.{◌≡◌, refl}
use mathlib.Core.List.{List, [], ◌∷◌}
use Rattle.format.specs.Calls.{refused, yes}
use Rattle.format.proofs.Ascii.{ascii}
use Rattle.format.specs.Carrying.{carrying}

-- while nothing is kept, HD may come on a later line and sets the rule anew: line 1 is under 1.6, line 3 under 1.5
unfoldable pub late : List ℕ
unfolding ascii
late = ascii "@HD\tVN:1.6\tx\n@PG\tID:a\tID:b\n@HD\tVN:1.5\n@PG\tID:a\tID:b\n"

pub late-carried : carrying late 20 4 ≡ yes (ascii "@HD\tVN:1.5\n@PG\tID:b\n", 0 ∷ 8 ∷ 1 ∷ 14 ∷ [])
unfolding ascii late carrying
late-carried = refl

-- with a table one number short
pub late-short : carrying late 20 3 ≡ refused 20 0
unfolding ascii late carrying
late-short = refl

-- a VN that can't be read leaves the rule, and so does an HD after a line that is kept; a key of a skipped line is free
unfoldable pub early : List ℕ
unfolding ascii
early = ascii "@HD\tVN:1.6\tx\n@HD\tVN:z\n@PG\tID:a\tID:b\n@SQ\tLN:08\tSN:s\n@HD\tVN:1.5\n@RG\tID:g\tID:g\n@SQ\tSN:s\tLN:9\n@RG\tID:g\n"

pub early-carried : carrying early 23 12 ≡ yes (ascii "@SQ\tSN:s\tLN:8\n@RG\tID:g\n", 0 ∷ 8 ∷ 1 ∷ 11 ∷ 2 ∷ 14 ∷ 4 ∷ 17 ∷ 5 ∷ 14 ∷ 6 ∷ 18 ∷ [])
unfolding ascii early carrying
early-carried = refl

-- 24 comes before 20 for both
pub unwritable-carried : carrying (ascii "@CO\t\n@SQ\tSN:*\tLN:1\n@XX\n") 0 0 ≡ refused 24 1
unfolding ascii carrying
unwritable-carried = refl
