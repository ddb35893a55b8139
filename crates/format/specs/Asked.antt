-- The names that a list asks for.
use Rattle.std.specs.Prelude.{ℕ, cond, List, [], ◌∷◌, eqb}
use Rattle.format.specs.Lines.{onto}

-- the names of a list: each LF ends a name, which may be empty, and bytes after the last LF are one more name
unfoldable pub asked : List ℕ → List (List ℕ)
unfolding onto
asked [] = []
asked (b ∷ s) = cond (eqb b 10) ([] ∷ asked s) (onto b (asked s))
