-- What a writer leaves in a lent slice.
use Rattle.std.specs.Prelude.{ℕ, ◌+◌, List, ◌++◌, length, take, drop}

-- `out` with `xs` written over it from `at` on; nothing else changes
unfoldable pub over : List ℕ → ℕ → List ℕ → List ℕ
over out at xs = take at out ++ xs ++ drop (at + length xs) out
