-- The hash of a key, which says where the search for it starts. Any function of kind and key would do: only the number of keys that start at one slot
-- depends on it. Four bytes are taken at a time, and the high half of a product is added to its low half, so that each byte has an effect on every
-- bit.
use Rattle.std.specs.Prelude.{ℕ, ◌+◌, ◌-◌, ◌*◌, ◌/◌, ◌%◌, ◌^◌, List, [], ◌∷◌, length, drop}
use Rattle.format.specs.Little.{of_little}

-- the two halves of a number below 2 ^ 64, added
unfoldable pub folded : ℕ → ℕ
folded p = (p % 2 ^ 32 + p / 2 ^ 32) % 2 ^ 32

-- with one more number below 2 ^ 32
unfoldable pub mixed : ℕ → ℕ → ℕ
unfolding folded
mixed h w = folded ((h + w) % 2 ^ 32 * 2654435761)

-- four bytes at a time, while four are left
unfoldable pub words_from : ℕ → List ℕ → ℕ
unfolding mixed of_little
words_from h [] = h
words_from h (a ∷ []) = h
words_from h (a ∷ b ∷ []) = h
words_from h (a ∷ b ∷ c ∷ []) = h
words_from h (a ∷ b ∷ c ∷ d ∷ s) = words_from (mixed h (of_little (a ∷ b ∷ c ∷ d ∷ []))) s

-- byte by byte
unfoldable pub bytes_from : ℕ → List ℕ → ℕ
unfolding mixed
bytes_from h [] = h
bytes_from h (b ∷ s) = bytes_from (mixed h b) s

-- the hash of a key, starting from that of its kind
unfoldable pub key_hash : ℕ → List ℕ → ℕ
unfolding words_from bytes_from
key_hash h s = bytes_from (words_from h s) (drop (length s - length s % 4) s)
