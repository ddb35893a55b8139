-- What one line adds: its record to the output, or its row to the table.
use Rattle.std.specs.Prelude.{ℕ, zero, suc, ◌+◌, ◌-◌, ◌*◌, ◌≤◌, ◌<◌, ◌≡◌, List, [], ◌∷◌, length}
use Rattle.format.specs.Records.{Line, line}
use Rattle.format.specs.declared.Kind.{Kind}
use Rattle.byte_slices.specs.Over.{over}
use Rattle.tidy_line.specs.Line.{line_text}
use Rattle.tidy_sizes.specs.Numbers.{get, plus}
use Rattle.tidy_sizes.specs.declared.PerKind.{PerKind}
use Rattle.tidy_text.specs.Kinds.{line_kind}
use Rattle.carry_early.specs.declared.Begin.{Begin}
use Rattle.carry_lines.specs.declared.Cursor.{Cursor}
use Rattle.carry_lines.specs.declared.Step.{Step}
use Rattle.carry_passes.specs.NextLine.{lent_to}

-- ---- given the line and its kind: `n` is 0 if the line is kept, and otherwise the reason why it is skipped

-- to the places
unfoldable pub places_at : ℕ → Kind → Line → PerKind → PerKind
unfolding plus line_text
places_at zero j l c = plus j (length (line_text l)) c
places_at (suc n) j l c = c

-- to the output
unfoldable pub out_at : ℕ → Kind → Line → PerKind → List ℕ → List ℕ
unfolding over get line_text
out_at zero j l c out = over out (get j c) (line_text l)
out_at (suc n) j l c out = out

-- to the table
unfoldable pub table_at : ℕ → ℕ → ℕ → List ℕ → List ℕ
unfolding over
table_at zero row number table = table
table_at (suc n) row number table = over table (row * 2) (number ∷ suc n ∷ [])

-- ---- given the step that judged the line at the cursor `c`

-- its kind, and the line itself
abbrev pub step_kind : List ℕ → Cursor → Step → Kind
step_kind t c s = line_kind (lent_to t c.at s.end)

abbrev pub step_line : List ℕ → Begin → Cursor → Step → Line
step_line t b c s = line b.strict (record { at = c.at; bytes = lent_to t c.at s.end })

-- how many rows come before its own
abbrev pub rows_before : Begin → Cursor → ℕ
rows_before b c = b.line + (c.line - c.kept)

-- there is room for its record or for its row
pub record RoomFor (t : List ℕ) (b : Begin) (c : Cursor) (s : Step) (places : PerKind) (out table : List ℕ) : Type 0 where
  pub text : s.refusal ≡ 0 → get (step_kind t c s) places + length (line_text (step_line t b c s)) ≤ length out
  pub row : 0 < s.refusal → rows_before b c * 2 + 2 ≤ length table

-- the places, the output and the table after it
abbrev pub places_after : List ℕ → Begin → Cursor → Step → PerKind → PerKind
places_after t b c s places = places_at s.refusal (step_kind t c s) (step_line t b c s) places

abbrev pub out_after : List ℕ → Begin → Cursor → Step → PerKind → List ℕ → List ℕ
out_after t b c s places out = out_at s.refusal (step_kind t c s) (step_line t b c s) places out

abbrev pub table_after : Begin → Cursor → Step → List ℕ → List ℕ
table_after b c s table = table_at s.refusal (rows_before b c) (b.line + c.line) table
