-- What is known where not too many slots were looked at, and where they are too many.
use Prim.Native.Nat.{ℕ, ◌+◌, ◌*◌, ◌≤◌}
use mathlib.Core.Path.{◌≡◌, refl}
use mathlib.Core.Bool.{Bool, true, false, cond, false≢true}
use native.Mathlib.Omega.{arith}
use lib.Dec.{ltb}
use borrow.Author.Tests.{ltb-true, ltb-false}
use Rattle.key_index.specs.Counting.{counted_slots, too_many}

pub counted-most : (k : Bool) (s more : ℕ) → counted_slots k s more ≤ s + more
unfolding counted_slots
counted-most true s more = omega arith
counted-most false s more = go (ltb 4294967296 more) refl
  where
    go : (b : Bool) → ltb 4294967296 more ≡ b → cond b 4294967296 (s + more) ≤ s + more
    go true e = omega (arith, ltb-true 4294967296 more e)
    go false e = omega arith

-- not too many
pub calm-few : (k : Bool) (n s more : ℕ) → too_many k n (counted_slots k s more) ≡ false → s ≤ 65536 + 16 * n → counted_slots k s more ≤ 65536 + 16 * n
unfolding counted_slots too_many
calm-few true n s more e h = h
calm-few false n s more e h = ltb-false (65536 + 16 * n) (cond (ltb 4294967296 more) 4294967296 (s + more)) e

-- too many
pub busy-plain : (k : Bool) (n s : ℕ) → too_many k n s ≡ true → k ≡ false
unfolding too_many
busy-plain true n s e = absurd (false≢true e)
busy-plain false n s e = refl
