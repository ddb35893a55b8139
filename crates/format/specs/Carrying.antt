-- Carrying on after refused lines: these are skipped, and the others are kept. A line is judged as in reading, after the records kept before it; but
-- as long as nothing is kept, each line may set the rule for repeated tags, and HD may still come.
use Rattle.std.specs.Prelude.{ℕ, ◌+◌, cond, List, [], ◌∷◌, ◌++◌, length, ltb}
use Rattle.std.proofs.Math.Option.{Option, none, some}
use Rattle.format.specs.Lines.{Piece, lines}
use Rattle.format.specs.Fields.{later}
use Rattle.format.specs.Records.{Record, Line, refused_line, read}
use Rattle.format.specs.Reading.{announced, is_strict, admitted, longest}
use Rattle.format.specs.Tidy.{tidy, is_writable}
use Rattle.format.specs.Calls.{Answer, refused, yes, then, writing, fitting}
use Rattle.format.specs.declared.Version.{Version}

-- ---- line by line

-- the records of the lines that are kept
unfoldable pub kept_of : List Line → List Record
kept_of [] = []
kept_of (refused_line n ∷ ls) = kept_of ls
kept_of (read r ∷ ls) = r ∷ kept_of ls

-- the version that applies to a line and those after it: as long as nothing is kept, each line that announces one sets it, and it stays set even if
-- that line is then refused
unfoldable pub ruling : Option Version → List Record → Piece → Option Version
unfolding later announced
ruling v [] p = later v (announced (p ∷ []))
ruling v (r ∷ rs) p = v

-- the verdict on each line, after the records `before` and under the version `v`
unfoldable pub carried_from : Option Version → List Record → List Piece → List Line
unfolding ruling admitted is_strict kept_of
carried_from v before [] = []
carried_from v before (p ∷ ps) =
    let w : Option Version = ruling v before p in
    let l : Line = admitted (is_strict w) before p in
    l ∷ carried_from w (before ++ kept_of (l ∷ [])) ps

-- the verdict on each line of a text; its place in the list is the line's number
unfoldable pub carried_lines : List ℕ → List Line
unfolding carried_from lines
carried_lines text = carried_from none [] (lines text)

-- ---- what is skipped, and what can't be written

-- a skipped line: its number, and why it was refused
pub record Skip : Type 0 where
  pub line : ℕ
  pub refusal : ℕ

-- the skipped lines in order; lines are counted from `l`
unfoldable pub skips : ℕ → List Line → List Skip
skips l [] = []
skips l (refused_line n ∷ ls) = record { line = l; refusal = n } ∷ skips (l + 1) ls
skips l (read r ∷ ls) = skips (l + 1) ls

-- as the table has them: two numbers for each
unfoldable pub rows : List Skip → List ℕ
rows [] = []
rows (s ∷ ss) = s.line ∷ s.refusal ∷ rows ss

-- the line, counted from `l`, of the first kept SQ that can't be written
unfoldable pub unwritable_line : ℕ → List Line → Option ℕ
unfolding is_writable
unwritable_line l [] = none
unwritable_line l (refused_line n ∷ ls) = unwritable_line (l + 1) ls
unwritable_line l (read r ∷ ls) = cond (is_writable r) (unwritable_line (l + 1) ls) (some l)

-- ---- the call

-- the tidy text of the kept records, and the table of the skipped lines; `room` is how many bytes the output takes, and `table` how many numbers the
-- table takes
unfoldable pub carrying : List ℕ → ℕ → ℕ → Answer (List ℕ × List ℕ)
unfolding then longest carried_lines writing unwritable_line tidy kept_of fitting rows skips
carrying text room table =
    let ls : List Line = carried_lines text in
    cond (ltb longest (length text)) (refused 1 0)
    (then (writing room (unwritable_line 0 ls) (tidy (kept_of ls))) (λ out.
    then (fitting table (rows (skips 0 ls))) (λ ss. yes (out, ss))))
