-- A key by the place where it starts.
use Rattle.std.specs.Prelude.{ℕ, Bool, cond, List, [], ◌∷◌, drop, ltb}
use Rattle.format.specs.Bytes.{same}

-- the bytes before the first one below 32
unfoldable pub word : List ℕ → List ℕ
word [] = []
word (b ∷ s) = cond (ltb b 32) [] (b ∷ word s)

-- is `x`, from its byte `i` on, the word that starts at the offset `at` of the text?
abbrev pub same_from : List ℕ → ℕ → List ℕ → ℕ → Bool
same_from x i t at = same (drop i x) (word (drop at t))
