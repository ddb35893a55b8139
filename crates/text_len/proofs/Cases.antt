-- Corners, computed.
use Prim.Native.Nat.{ℕ}
use mathlib.Core.Path.{◌≡◌, refl}
use mathlib.Core.List.{List, [], ◌∷◌, map}
use Rattle.format.proofs.Ascii.{ascii}
use Rattle.format.specs.TextLen.{text_len}

-- an empty line ends the header, even the first; just an `@` is a line; a CR at the end of the last line stays in it; an alignment line is not one of its lines
unfoldable pub corners : List (List ℕ × ℕ)
unfolding ascii
corners =
    (ascii "", 0) ∷
    (ascii "\n", 0) ∷
    (ascii "@", 1) ∷
    (ascii "x@", 0) ∷
    (ascii "@a\n\n@b\n", 3) ∷
    (ascii "@a\r\n\r\n@b\n", 4) ∷
    (ascii "@a\r\n@b\r", 7) ∷
    (ascii "@CO\tx\nr1\t4\t*\t0\t0\t*\t*\t0\t0\tA\tI\n@CO\ty\n", 6) ∷
    []

pub corners-told : map (λ c. text_len c.0) corners ≡ map (λ c. c.1) corners
unfolding ascii corners text_len
corners-told = refl
