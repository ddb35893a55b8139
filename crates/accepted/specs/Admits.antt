-- The records of a text, line by line, and how each relates to those before it.
use Rattle.std.specs.Prelude.{ℕ, ◌≡◌, Bool, false, not, ◌&&◌, List, [], ◌∷◌, ◌++◌, length, eqb, leb}
use Rattle.format.specs.Bytes.{any, none?}
use Rattle.format.specs.Lines.{Piece, lines}
use Rattle.format.specs.Records.{Record, code, read}
use Rattle.format.specs.Reading.{announced, is_strict, clash, of_kind, barred, admitted}

-- whether the text forbids repeated tags
unfoldable pub strictly : List ℕ → Bool
unfolding is_strict announced lines
strictly t = is_strict (announced (lines t))

-- `rs` are the records of the lines `ps`, each admitted after `before` and those before it
unfoldable pub Admits : Bool → List Record → List Piece → List Record → Type 0
unfolding admitted
Admits strict before [] [] = Unit
Admits strict before [] (r ∷ rs) = ⊥
Admits strict before (p ∷ ps) [] = ⊥
Admits strict before (p ∷ ps) (r ∷ rs) = (admitted strict before p ≡ read r) × Admits strict (before ++ (r ∷ [])) ps rs

-- each may follow `before` and those before it
unfoldable pub Unbarred : List Record → List Record → Type 0
unfolding barred
Unbarred before [] = Unit
Unbarred before (r ∷ rs) = (barred before r ≡ 0) × Unbarred (before ++ (r ∷ [])) rs

-- no two records of one kind have the same key
unfoldable pub KeysDiffer : List Record → Type 0
unfolding any clash
KeysDiffer [] = Unit
KeysDiffer (r ∷ rs) = (any (clash r) rs ≡ false) × KeysDiffer rs

-- `r` may follow `before`: no HD after a record, no key twice, no 1,025th program
pub record MayFollow (before : List Record) (r : Record) : Type 0 where
  pub leading : eqb (code r) 1 && not (none? before) ≡ false
  pub apart : any (clash r) before ≡ false
  pub room : eqb (code r) 4 && leb 1024 (length (of_kind 4 before)) ≡ false
