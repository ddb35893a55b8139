-- Corners, computed.
use Prim.Native.Nat.{ℕ}
use mathlib.Core.Path.{◌≡◌, refl}
use mathlib.Core.List.{List, [], ◌∷◌, ◌++◌, map}
use lib.ListN.{take}
use Rattle.format.specs.Catalogue.{little}
use Rattle.format.specs.Binary.{magic, binary}
use Rattle.format.proofs.Ascii.{ascii}
use Rattle.binary_len.specs.BinaryLen.{BinaryLen}
use Rattle.binary_len.specs.declared.Len.TheVariants.{Whole, More}
use Rattle.std.specs.Prelude.{Ok, Err}
use Rattle.binary_len.specs.BinaryLen.{binary_len}

-- a header of 17 bytes with no reference, and one of 35 with one
unfoldable pub bare : List ℕ
unfolding ascii binary
bare = binary (ascii "@CO\t\n") []

unfoldable pub one : List ℕ
unfolding ascii binary
one = binary (ascii "@SQ\tSN:a\tLN:8") (record { name = ascii "a"; size = 8 } ∷ [])

-- the header with one reference, whose name is announced with `n` bytes and is `name`
unfoldable pub announced : ℕ → List ℕ → List ℕ
unfolding magic little
announced n name = magic ++ little 4 0 ++ little 4 1 ++ little 4 n ++ name ++ little 4 8

-- the ends of each part, a byte short of them and after them; the largest numbers; a name with no bytes and one that is not closed; bytes that
-- no header starts with, as soon as the first of them is there
unfoldable pub corners : List (List ℕ × BinaryLen)
unfolding ascii magic little bare one announced
corners =
    (bare, Ok (Whole 17)) ∷
    (bare ++ (0 ∷ []), Ok (Whole 17)) ∷
    (take 16 bare, Ok (More 17)) ∷
    (one, Ok (Whole 35)) ∷
    (one ++ bare, Ok (Whole 35)) ∷
    (take 34 one, Ok (More 35)) ∷
    (take 30 one, Ok (More 31)) ∷
    (take 28 one, Ok (More 29)) ∷
    (take 24 one, Ok (More 25)) ∷
    (take 20 one, Ok (More 21)) ∷
    (announced 2 (97 ∷ 0 ∷ []), Ok (Whole 22)) ∷
    (announced 0 [], Err 28) ∷
    (announced 2 (0 ∷ 97 ∷ []), Err 28) ∷
    (announced 1 (0 ∷ []), Ok (Whole 21)) ∷
    (announced 4294967295 (97 ∷ 0 ∷ []), Ok (More 4294967311)) ∷
    (magic ++ little 4 4294967295, Ok (More 4294967303)) ∷
    (magic ++ little 4 0 ++ little 4 4294967295, Ok (More 16)) ∷
    (ascii "BAM\t", Err 28) ∷
    (ascii "X", Err 28) ∷
    (ascii "BAN", Err 28) ∷
    []

pub corners-told : map (λ c. binary_len c.0) corners ≡ map (λ c. c.1) corners
unfolding ascii corners bare one announced binary_len
corners-told = refl
