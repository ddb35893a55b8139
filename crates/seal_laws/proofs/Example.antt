-- The nine days, computed: a name is edited to one of equal length. The old catalogue is fresh, the old seal is not. And the order of refusals.
use Prim.Native.Nat.{ℕ}
use mathlib.Core.Path.{◌≡◌, refl}
use mathlib.Core.List.{List, [], ◌∷◌}
use Rattle.format.specs.Calls.{Answer, yes, refused, reading, fresh}
use Rattle.std.specs.Prelude.{Ok}
use Rattle.read.specs.Answers.{checked_of}
use Rattle.format.proofs.Ascii.{ascii}
use Rattle.format.specs.Sha256.{sha256}
use Rattle.format.specs.Seal.{sealing, checking_sealed}

-- the header that was planned with, its catalogue, and the edited one
unfoldable pub planned : List ℕ
unfolding ascii
planned = ascii "@SQ\tSN:chr1\tLN:8\n"

unfoldable pub kept : List ℕ
kept = 2 ∷ 7 ∷ 0 ∷ 0 ∷ 0 ∷ 4 ∷ 0 ∷ 0 ∷ 0 ∷ 8 ∷ 0 ∷ 0 ∷ 0 ∷ 0 ∷ 0 ∷ 0 ∷ 0 ∷ 0 ∷ 0 ∷ 0 ∷ 0 ∷ []

unfoldable pub edited : List ℕ
unfolding ascii
edited = ascii "@SQ\tSN:chrX\tLN:8\n"

pub planned-kept : reading planned 21 ≡ yes kept
unfolding planned kept reading
planned-kept = refl

pub edited-fresh : checked_of (fresh edited kept) ≡ Ok tt
unfolding edited kept fresh checked_of
edited-fresh = refl

pub edited-told : checking_sealed edited kept (sha256 planned) 17 ≡ refused 33 0
unfolding planned edited kept checking_sealed sha256
edited-told = refl

-- where the catalogue is another text's, and the seal another header's
pub stale-first : checking_sealed edited [] (sha256 planned) 17 ≡ refused 21 0
unfolding planned edited checking_sealed
stale-first = refl

-- where the work area is too short, and the seal another header's
pub short-first : checking_sealed edited kept (sha256 planned) 16 ≡ refused 20 0
unfolding planned edited kept checking_sealed
short-first = refl
