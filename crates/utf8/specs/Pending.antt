-- What the current character still needs, in plain numbers: how many bytes, and the range of the next. The ranges after it are `trail`.
use Rattle.std.specs.Prelude.{ℕ, zero, suc, cond, List, [], ◌∷◌, length}
use Rattle.format.specs.Utf8.{within, trail, forms, due}
use Rattle.utf8.specs.declared.Pending.{Pending}

unfoldable pub pending_of : List (ℕ × ℕ) → Pending
pending_of [] = record { left = 0; lo = 128; hi = 191 }
pending_of (r ∷ rs) = record { left = suc (length rs); lo = r.0; hi = r.1 }

unfoldable pub trails : ℕ → List (ℕ × ℕ)
unfolding trail
trails zero = []
trails (suc n) = trail ∷ trails n

-- `n` ranges, the first from `lo` to `hi`
unfoldable pub ranges : ℕ → ℕ → ℕ → List (ℕ × ℕ)
unfolding trails
ranges zero lo hi = []
ranges (suc n) lo hi = (lo, hi) ∷ trails n

unfoldable pub due_of : Pending → List (ℕ × ℕ)
unfolding ranges
due_of p = ranges p.left p.lo p.hi

-- what is needed after one more byte, if `rs` was needed before: an empty range if the byte does not fit
unfoldable pub due_after : List (ℕ × ℕ) → ℕ → List (ℕ × ℕ)
unfolding due forms within
due_after [] b = due b forms
due_after (r ∷ rs) b = cond (within r b) rs ((1, 0) ∷ [])
