-- The words, the numbers and the bytes of stored cases.
use Rattle.std.specs.Prelude.{ℕ, zero, suc, ◌+◌, ◌-◌, ◌*◌, ◌%◌, ◌/◌, cond, List, [], ◌∷◌, length, drop, ltb}
use Rattle.byte_slices.specs.Upto.{upto, before}

unfoldable pub smaller : ℕ → ℕ → ℕ
smaller a b = cond (ltb a b) a b

-- the value of a digit, `0` to `9` or `a` to `f`, and 0 for any other byte
unfoldable pub digit_value : ℕ → ℕ
digit_value b = cond (ltb b 48) 0 (cond (ltb b 58) (b - 48) (cond (ltb b 97) 0 (cond (ltb b 103) (b - 87) 0)))

-- the number that digits spell after `n`, taken from its last ten
unfoldable pub number_from : ℕ → List ℕ → ℕ
unfolding digit_value
number_from n [] = n
number_from n (b ∷ s) = number_from (n % 1000000000 * 10 + digit_value b) s

-- the bytes that hex digits spell, two digits each
unfoldable pub decoded : List ℕ → List ℕ
unfolding digit_value
decoded [] = []
decoded (a ∷ []) = []
decoded (a ∷ b ∷ s) = (digit_value a * 16 + digit_value b) ∷ decoded s

-- how many of them fit
unfoldable pub decoded_count : List ℕ → List ℕ → ℕ
unfolding smaller
decoded_count hex out = smaller (length hex / 2) (length out)

-- what a line has from word `k` on, counted from 0: words are separated by one space
unfoldable pub from_word : ℕ → List ℕ → List ℕ
unfolding upto
from_word zero s = s
from_word (suc k) s = from_word k (drop (upto 32 s + 1) s)

-- word `k`: empty if there is none
unfoldable pub word_in : ℕ → List ℕ → List ℕ
unfolding from_word before
word_in k s = before 32 (from_word k s)

-- where the word is
unfoldable pub word_standing : ℕ → List ℕ → ℕ × ℕ → ℕ × ℕ
unfolding from_word
word_standing k s line = (line.0, length s - length (from_word k s) + line.1)
