-- Where a piece is in a text, and what holds of each element of a list.
use Rattle.std.specs.Prelude.{ℕ, ◌+◌, ◌-◌, ◌≤◌, ◌≡◌, List, [], ◌∷◌, length, take, drop}
use Rattle.format.specs.Lines.{Piece}
use Rattle.byte_slices.specs.Upto.{upto}

-- the bytes of `p` are in `s` at its place, where the first byte of `s` has the offset `at`
pub record Stands (s : List ℕ) (at : ℕ) (p : Piece) : Type 0 where
  pub from : at ≤ p.at
  pub within : p.at - at + length p.bytes ≤ length s
  pub bytes : p.bytes ≡ take (length p.bytes) (drop (p.at - at) s)

unfoldable pub Each : {A : Type 0} → (A → Type 0) → List A → Type 0
Each P [] = Unit
Each P (x ∷ xs) = P x × Each P xs

-- no byte of `s` is `d`
abbrev pub Free : ℕ → List ℕ → Type 0
Free d s = upto d s ≡ length s
