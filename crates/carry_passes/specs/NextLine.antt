-- One step of a pass over the lines from the offset `from` on: the next line, judged after the lines that were kept before it.
use Rattle.std.specs.Prelude.{ℕ, ◌+◌, ◌-◌, ◌≤◌, ◌<◌, ◌≡◌, Bool, true, List, ◌∷◌, length, take, drop}
use Rattle.format.specs.Records.{Line, refused_line, line}
use Rattle.byte_slices.specs.First.{first_line}
use Rattle.accepted.specs.Read.{is_read}
use Rattle.carry_lines.specs.Going.{judged_lines}
use Rattle.carry_lines.specs.declared.Cursor.{Cursor}

-- the part of the text that is lent as a line
abbrev pub lent_to : List ℕ → ℕ → ℕ → List ℕ
lent_to t at end = take (end - at) (drop at t)

-- the line `judged` is next, from the cursor to `end`; `n` is 0 if it is kept
pub record Turn (strict : Bool) (t : List ℕ) (from : ℕ) (c : Cursor) (end n : ℕ) : Type 0 where
  pub onward : 0 < (first_line (drop c.at t)).next
  pub start : c.at ≤ end
  pub inside : end ≤ length t
  pub size : c.at + length (lent_to t c.at end) ≡ end
  pub slow : c.line ≤ c.at
  pub few : c.kept ≤ c.line
  pub judged : Line
  pub more : drop c.line (judged_lines strict t from) ≡ judged ∷ drop (c.line + 1) (judged_lines strict t from)
  pub kept : n ≡ 0 → (judged ≡ line strict (record { at = c.at; bytes = lent_to t c.at end })) × (is_read judged ≡ true)
  pub skipped : 0 < n → judged ≡ refused_line n
