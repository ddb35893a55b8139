-- The LFs of a list of names.
use Rattle.std.specs.Prelude.{ℕ, suc, cond, List, [], ◌∷◌, eqb}

-- how many there are
unfoldable pub ends : List ℕ → ℕ
ends [] = 0
ends (b ∷ s) = cond (eqb b 10) (suc (ends s)) (ends s)
