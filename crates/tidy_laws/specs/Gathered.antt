-- Records of some of the lines of a text, in order, where each may follow those before it. The records of an accepted text and those that carrying on
-- keeps are such records. The laws of the tidy text need only this.
use Rattle.std.specs.Prelude.{ℕ, ◌≡◌, Bool, List, [], ◌∷◌}
use Rattle.format.specs.Lines.{Piece, lines}
use Rattle.format.specs.Records.{Record, read, line}
use Rattle.accepted.specs.Admits.{Unbarred}

-- `rs` are records of lines of `ps`, in order; lines may be passed over
pub data From : List Piece → List Record → Type 0 where
  end : From [] []
  passed : {p : Piece} {ps : List Piece} {rs : List Record} → From ps rs → From (p ∷ ps) rs
  taken : {p : Piece} {r : Record} {ps : List Piece} {rs : List Record} (strict : Bool) → line strict p ≡ read r → From ps rs → From (p ∷ ps) (r ∷ rs)

pub record Gathered (t : List ℕ) (rs : List Record) : Type 0 where
  pub from : From (lines t) rs
  pub unbarred : Unbarred [] rs
