-- A text with two SQ written out and read in, and what in refuses.
use Prim.Native.Nat.{ℕ}
use mathlib.Core.Path.{◌≡◌, refl}
use mathlib.Core.List.{List, [], ◌∷◌, ◌++◌}
use Rattle.format.specs.Calls.{refused, yes}
use Rattle.format.proofs.Ascii.{ascii}
use Rattle.format.specs.Binary.{binary, binary_out, binary_in}

unfoldable pub given : List ℕ
unfolding ascii
given = ascii "@SQ\tLN:08\tSN:a\n@CO\tx\n@SQ\tSN:bc\tLN:300"

-- 37 bytes
unfoldable pub tidied : List ℕ
unfolding ascii
tidied = ascii "@SQ\tSN:a\tLN:8\n@SQ\tSN:bc\tLN:300\n@CO\tx\n"

unfoldable pub bytes : List ℕ
unfolding tidied
bytes =
    (66 ∷ 65 ∷ 77 ∷ 1 ∷ 37 ∷ 0 ∷ 0 ∷ 0 ∷ [])
    ++ tidied
    ++ (2 ∷ 0 ∷ 0 ∷ 0 ∷ 2 ∷ 0 ∷ 0 ∷ 0 ∷ 97 ∷ 0 ∷ 8 ∷ 0 ∷ 0 ∷ 0 ∷ 3 ∷ 0 ∷ 0 ∷ 0 ∷ 98 ∷ 99 ∷ 0 ∷ 44 ∷ 1 ∷ 0 ∷ 0 ∷ [])

-- out, into an output of that length and into one a byte shorter
pub given_out : binary_out given 70 ≡ yes bytes
unfolding ascii given tidied bytes binary_out
given_out = refl

pub given-short : binary_out given 69 ≡ refused 20 0
unfolding ascii given binary_out
given-short = refl

-- in: the tidy text back
pub bytes-in : binary_in bytes 37 ≡ yes tidied
unfolding ascii tidied bytes binary_in
bytes-in = refl

-- a byte after the last reference
pub longer-in : binary_in (bytes ++ (0 ∷ [])) 37 ≡ refused 28 0
unfolding ascii tidied bytes binary_in
longer-in = refl

-- ---- a text part with zero bytes at its end, and one reference

-- the header of `@SQ`, SN `a`, LN 8 with a list of one reference
unfoldable pub listing : List ℕ → ℕ → List ℕ
unfolding ascii binary
listing name size = binary (ascii "@SQ\tSN:a\tLN:8\n" ++ (0 ∷ 0 ∷ [])) (record { name = name; size = size } ∷ [])

pub padded-in : binary_in (listing (97 ∷ []) 8) 14 ≡ yes (ascii "@SQ\tSN:a\tLN:8\n")
unfolding ascii listing binary_in
padded-in = refl

-- another name, and another length
pub named_in : binary_in (listing (98 ∷ []) 8) 14 ≡ refused 29 0
unfolding ascii listing binary_in
named_in = refl

pub sized-in : binary_in (listing (97 ∷ []) 9) 14 ≡ refused 29 0
unfolding ascii listing binary_in
sized-in = refl

-- a name length of 0, after an empty text
pub nameless-in : binary_in (66 ∷ 65 ∷ 77 ∷ 1 ∷ 0 ∷ 0 ∷ 0 ∷ 0 ∷ 1 ∷ 0 ∷ 0 ∷ 0 ∷ 0 ∷ 0 ∷ 0 ∷ 0 ∷ 8 ∷ 0 ∷ 0 ∷ 0 ∷ []) 0 ≡ refused 28 0
unfolding binary_in
nameless-in = refl

-- ---- a list that is not the text's

-- one reference fewer
pub fewer-in : binary_in (binary (ascii "@SQ\tSN:a\tLN:8\n") []) 14 ≡ refused 29 0
unfolding ascii binary binary_in
fewer-in = refl

-- 29 comes before 24 and 20, and after reading's refusals
pub unwritable-in : binary_in (binary (ascii "@SQ\tSN:*\tLN:8\n") []) 0 ≡ refused 29 0
unfolding ascii binary binary_in
unwritable-in = refl

pub unread-in : binary_in (binary (ascii "@SQ\tSN:a\tLN:0\n") []) 0 ≡ refused 13 0
unfolding ascii binary binary_in
unread-in = refl
