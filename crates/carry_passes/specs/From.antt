-- The lines from the first kept line on.
use Rattle.std.specs.Prelude.{ℕ, ◌≤◌, ◌≡◌, List, [], length}
use Rattle.std.proofs.Math.Option.{Option}
use Rattle.format.specs.Records.{Record, Line}
use Rattle.format.specs.Slots.{Held}
use Rattle.key_look.specs.Seed.{plain_seed}
use Rattle.key_index.specs.KeySlots.{start}
use Rattle.format.specs.Carrying.{kept_of, Skip, skips, rows, unwritable_line}
use Rattle.carry_early.specs.declared.Begin.{Begin}
use Rattle.carry_lines.specs.Going.{judged_lines}

-- before a pass: there is room for the keys of a block of lines, and the slots `ids` hold no program
pub record Fresh (t area ids : List ℕ) : Type 0 where
  pub some : 4 ≤ length area
  pub room : length ids ≡ 2048
  pub held : Held (start plain_seed t 2048) ids []

-- the verdict on each line
abbrev pub lines_kept_from : List ℕ → Begin → List Line
lines_kept_from t b = judged_lines b.strict t b.at

-- the kept records
unfoldable pub kept_from : List ℕ → Begin → List Record
unfolding kept_of judged_lines
kept_from t b = kept_of (lines_kept_from t b)

-- the skipped lines
abbrev pub skipped_from : List ℕ → Begin → List Skip
skipped_from t b = skips b.line (lines_kept_from t b)

-- the rows of the skipped lines
unfoldable pub rows_of : List ℕ → Begin → List ℕ
unfolding rows skips judged_lines
rows_of t b = rows (skipped_from t b)

-- the line of the first kept SQ whose name can't be written
abbrev pub unwritable_from : List ℕ → Begin → Option ℕ
unwritable_from t b = unwritable_line b.line (lines_kept_from t b)
