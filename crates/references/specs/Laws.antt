-- What the rows must satisfy: each is what the calls `key` and `length` answer for its SQ.
use Rattle.std.specs.Prelude.{ℕ, ◌*◌, ◌≡◌, List, [], ◌∷◌, take, drop}
use Rattle.std.proofs.Math.ListN as list
use Rattle.format.specs.Lines.{Piece}
use Rattle.format.specs.Calls.{yes, keying, sizing}

-- three of the numbers in the answer are the row of the SQ with an ordinal
pub record RowOf (t c xs : List ℕ) (i : ℕ) : Type 0 where
  pub name : Piece
  pub ln : ℕ
  pub key : keying t c 2 i ≡ yes name
  pub length : sizing t c i ≡ yes ln
  pub row : take 3 (drop (3 * i) xs) ≡ name.at ∷ list.length name.bytes ∷ ln ∷ []
