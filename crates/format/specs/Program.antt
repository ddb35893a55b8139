-- What the program on standard input writes, for every input.
use Rattle.std.specs.Prelude.{ℕ, cond, List, [], ◌∷◌, ◌++◌, length, ltb}
use Rattle.format.specs.Decimal.{written}
use Rattle.format.specs.Reading.{longest}
use Rattle.format.specs.Calls.{Answer, refused, yes, tidying}

-- `refused `
unfoldable pub spelled_refused : List ℕ
spelled_refused = 114 ∷ 101 ∷ 102 ∷ 117 ∷ 115 ∷ 101 ∷ 100 ∷ 32 ∷ []

-- ` line `
unfoldable pub spelled_line : List ℕ
spelled_line = 32 ∷ 108 ∷ 105 ∷ 110 ∷ 101 ∷ 32 ∷ []

-- `refused N line L` and LF, both numbers in decimal
unfoldable pub refusal : ℕ → ℕ → List ℕ
unfolding spelled_refused spelled_line written
refusal n l = spelled_refused ++ written n ++ spelled_line ++ written l ++ (10 ∷ [])

-- an answer as a text
unfoldable pub said : Answer (List ℕ) → List ℕ
unfolding refusal
said (refused n l) = refusal n l
said (yes t) = t

-- at most 65,535 bytes are taken; the output has no limit of its own
unfoldable pub program : List ℕ → List ℕ
unfolding refusal said tidying longest
program text = cond (ltb 65535 (length text)) (refusal 1 0) (said (tidying text longest))
