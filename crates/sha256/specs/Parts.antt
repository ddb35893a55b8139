-- What the functions of the code work on: a hash value, a word at its place, and what follows the whole blocks of a message.
use Rattle.std.specs.Prelude.{ℕ, ◌+◌, ◌*◌, ◌/◌, List, ◌++◌, length, drop, get_or}
use Rattle.format.specs.Sha256.{HashValue, from_big, padding}
use Rattle.sha256.specs.declared.State.{State}

-- the hash value that the code's words make
abbrev pub value_of : State → HashValue
value_of s = record { a = s.a; b = s.b; c = s.c; d = s.d; e = s.e; f = s.f; g = s.g; h = s.h }

-- the word in the four bytes at `at`
unfoldable pub word_at : List ℕ → ℕ → ℕ
unfolding from_big
word_at s at = from_big (get_or s at 0) (get_or s (at + 1) 0) (get_or s (at + 2) 0) (get_or s (at + 3) 0)

-- what follows the whole blocks of a message, padded: one block or two
unfoldable pub last_blocks : List ℕ → List ℕ
unfolding padding
last_blocks s = drop (64 * (length s / 64)) s ++ padding (length s)
