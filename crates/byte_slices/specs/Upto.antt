-- The first place of a byte, and the piece before it.
use Rattle.std.specs.Prelude.{ℕ, suc, Bool, false, cond, List, [], ◌∷◌, take, eqb}

-- how many bytes of `s` come before the first `d`: all if there is none
unfoldable pub upto : ℕ → List ℕ → ℕ
upto d [] = 0
upto d (b ∷ s) = cond (eqb b d) 0 (suc (upto d s))

-- those bytes
unfoldable pub before : ℕ → List ℕ → List ℕ
unfolding upto
before d s = take (upto d s) s

-- is `b` the first byte?
unfoldable pub leads : ℕ → List ℕ → Bool
leads b [] = false
leads b (c ∷ s) = eqb c b
