-- What holds of the cursor, among the lines from the offset `from` on.
use Rattle.std.specs.Prelude.{ℕ, ◌*◌, ◌/◌, ◌≤◌, ◌≡◌, Bool, List, [], ◌∷◌, ◌++◌, length, drop}
use Rattle.format.specs.Lines.{Piece, lines_from}
use Rattle.format.specs.Records.{Line}
use Rattle.format.specs.Reading.{of_kind}
use Rattle.format.specs.Slots.{Held}
use Rattle.byte_slices.specs.Stands.{Each}
use Rattle.read_admission.specs.Admission.{line_refusal}
use Rattle.format.specs.Carrying.{kept_of}
use Rattle.carry_laws.specs.Judged.{judged_from}
use Rattle.key_index.specs.KeySlots.{start}
use Rattle.accepted.specs.Ended.{Ended}
use Rattle.key_index.specs.HeldKeys.{key_values_of}
use Rattle.carry_keys.specs.Blocks.{keyed_front, filled_for}
use Rattle.key_look.specs.Seed.{plain_seed}
use Rattle.key_look.specs.declared.Seed.{Seed}
use Rattle.carry_lines.specs.declared.Cursor.{Cursor}

-- the verdict on each line from an offset on
unfoldable pub judged_lines : Bool → List ℕ → ℕ → List Line
unfolding judged_from lines_from
judged_lines strict t from = judged_from strict [] (lines_from from (drop from t))

-- 0, or why the first of some lines is refused
unfoldable pub refusal_first : List Line → ℕ
unfolding line_refusal
refusal_first [] = 0
refusal_first (l ∷ ls) = line_refusal l

-- 0, or why the line with a number is refused
unfoldable pub refusal_at : ℕ → List Line → ℕ
unfolding refusal_first
refusal_at n ls = refusal_first (drop n ls)

-- the block: the area is filled for the lines from the offset `begin` on and before `until`, of which `done` are judged and `rest` are
-- not, after the lines `old`, by the numbers `seed`
pub record Block (seed : Seed) (strict : Bool) (t : List ℕ) (from : ℕ) (area : List ℕ) (passed : List Piece) (at until : ℕ) : Type 0 where
  pub begin : ℕ
  pub old : List Piece
  pub done : List Piece
  pub rest : List Piece
  pub split : lines_from from (drop from t) ≡ old ++ lines_from begin (drop begin t)
  pub front : passed ≡ old ++ done
  pub lines : keyed_front strict (length area / 4 * 3) (lines_from begin (drop begin t)) ≡ done ++ rest
  pub ahead : lines_from at (drop at t) ≡ rest ++ lines_from until (drop until t)
  pub filled : area ≡ filled_for seed strict t (length area) from begin

pub record Going (strict : Bool) (t : List ℕ) (from : ℕ) (area ids : List ℕ) (c : Cursor) : Type 0 where
  pub passed : List Piece
  pub split : lines_from from (drop from t) ≡ passed ++ lines_from c.at (drop c.at t)
  pub inside : c.at ≤ length t
  pub slow : c.line ≤ c.at
  pub number : c.line ≡ length passed
  pub counted : c.kept ≡ length (kept_of (judged_from strict [] passed))
  pub told : c.programs ≡ length (of_kind 4 (kept_of (judged_from strict [] passed)))
  pub ended : Each (Ended t) (of_kind 4 (kept_of (judged_from strict [] passed)))
  pub held : Held (start plain_seed t (length ids)) ids (key_values_of plain_seed (of_kind 4 (kept_of (judged_from strict [] passed))))
  pub few : c.programs ≤ 1024
  pub some : 4 ≤ length area
  pub room : length ids ≡ 2048
  pub block : (c.at ≡ c.until → ⊥) → Block c.seed strict t from area passed c.at c.until
