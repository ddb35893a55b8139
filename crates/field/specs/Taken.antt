-- The answer of taking a value, in terms of the definitions of `format`.
use Rattle.std.specs.Prelude.{ℕ, Bool, cond, List, length}

-- how many of the bytes before the next tab are taken as a value: all, or none if `allowed` says that they are not a value
unfoldable pub taken_of : (List ℕ → Bool) → List ℕ → ℕ
taken_of allowed v = cond (allowed v) (length v) 0
