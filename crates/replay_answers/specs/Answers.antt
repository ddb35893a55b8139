-- The words of stored answers: how a number, bytes or a refusal are written, and whether a line says them.
use Rattle.std.specs.Prelude.{ℕ, ◌+◌, ◌/◌, ◌%◌, Bool, false, ◌&&◌, cond, List, [], ◌∷◌, length, take, drop, eqb, ltb}
use Rattle.format.specs.Bytes.{same, all, none?}
use Rattle.format.specs.Decimal.{written}
use Rattle.replay_cases.specs.Cases.{word_in}

-- ---- bytes in hex

-- the digit of a value below 16, `0` to `9` or `a` to `f`
unfoldable pub hex_digit : ℕ → ℕ
hex_digit n = cond (ltb n 10) (48 + n) (87 + n)

-- two digits per byte
unfoldable pub hex_of : List ℕ → List ℕ
unfolding hex_digit
hex_of [] = []
hex_of (b ∷ bs) = hex_digit (b / 16) ∷ hex_digit (b % 16) ∷ hex_of bs

-- `-` for none
unfoldable pub hex_word : List ℕ → List ℕ
unfolding hex_of
hex_word [] = 45 ∷ []
hex_word (b ∷ bs) = hex_of (b ∷ bs)

-- ---- answers

-- the first `n` bytes of an output are those of a word, and the others are still the filler, 165
unfoldable pub text_is : List ℕ → List ℕ → ℕ → Bool
unfolding same hex_word all
text_is word out n = cond (ltb (length out) n) false (same word (hex_word (take n out)) && all (eqb 165) (drop n out))

-- word `k` of a line is `x`
unfoldable pub word_is : List ℕ → ℕ → List ℕ → Bool
unfolding same word_in
word_is line k x = same (word_in k line) x

-- from word `at` on: `refused`, the number, the line, and nothing more
unfoldable pub refusal_is : List ℕ → ℕ → ℕ → ℕ → Bool
unfolding word_is written none? word_in
refusal_is line at n l =
    cond (word_is line at (114 ∷ 101 ∷ 102 ∷ 117 ∷ 115 ∷ 101 ∷ 100 ∷ []))
    (cond (word_is line (at + 1) (written n)) (cond (word_is line (at + 2) (written l)) (none? (word_in (at + 3) line)) false) false) false

-- from word `at` on: `ok`, `n` words, and nothing more
unfoldable pub ok_is : List ℕ → ℕ → ℕ → Bool
unfolding word_is none? word_in
ok_is line at n = cond (word_is line at (111 ∷ 107 ∷ [])) (none? (word_in (at + n + 1) line)) false
