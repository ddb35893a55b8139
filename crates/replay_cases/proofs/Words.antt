-- Words one by one.
use Prim.Native.Nat.{ℕ, zero, suc, ◌+◌, ◌-◌, ◌≤◌, ◌<◌}
use mathlib.Core.Path.{◌≡◌, refl, ap, ◌∙◌}
use mathlib.Core.List.{List, []}
use native.Mathlib.Omega.{arith}
use lib.ListN.{length, drop, drop_of_length-le}
use Rattle.byte_slices.specs.Upto.{upto}
use Rattle.replay_cases.specs.Cases.{from_word}

words-none : (k : ℕ) → from_word k [] ≡ []
unfolding from_word upto
words-none zero = refl
words-none (suc k) = words-none k

-- the line ends with this word
pub words-end : (s : List ℕ) (k : ℕ) → 0 < k → length s ≤ upto 32 s → from_word k s ≡ []
unfolding from_word
words-end s zero h e = absurd (omega (arith, h))
words-end s (suc k) h e =
    let past : length s ≤ upto 32 s + 1 = omega (arith, e) in
    ap (from_word k) (drop_of_length-le s past) ∙ words-none k

pub words-turn : (s : List ℕ) (k : ℕ) → 0 < k → from_word k s ≡ from_word (k - 1) (drop (upto 32 s + 1) s)
unfolding from_word
words-turn s zero h = absurd (omega (arith, h))
words-turn s (suc k) h = let m : k ≡ suc k - 1 = omega arith in ap (λ n. from_word n (drop (upto 32 s + 1) s)) m
