-- Whether a run of fields has a field with a tag, as its bytes show.
use Rattle.std.specs.Prelude.{ℕ, Bool, false, ◌&&◌, ◌||◌, List, [], ◌∷◌, eqb}
use Rattle.format.specs.Bytes.{starts}

-- a tab, `a`, `b`, somewhere in `s`
unfoldable pub occurs : ℕ → ℕ → List ℕ → Bool
unfolding starts
occurs a b [] = false
occurs a b (c ∷ s) = (eqb c 9 && starts (a ∷ b ∷ []) s) || occurs a b s
