-- The lines before the first kept line. No line before them is kept, so each is judged by itself.
use Rattle.std.specs.Prelude.{ℕ, ◌+◌, Bool, false, List, [], ◌∷◌}
use Rattle.format.specs.Lines.{Piece, lines}
use Rattle.format.specs.Records.{Line, refused_line, read}
use Rattle.format.specs.Reading.{announced, admitted}
use Rattle.read_repeat_rule.specs.Rule.{strict_after}

-- the refusals of these lines, the rule for repeated tags after them, and the lines from the first kept line on
pub record Early : Type 0 where
  pub refusals : List ℕ
  pub strict : Bool
  pub rest : List Piece

-- the line `p`, judged under the rule `strict`, put before what comes after it
unfoldable pub with_line : Bool → Piece → List Piece → Early → Line → Early
with_line strict p ps e (refused_line n) = record { refusals = n ∷ e.refusals; strict = e.strict; rest = e.rest }
with_line strict p ps e (read r) = record { refusals = []; strict = strict; rest = p ∷ ps }

-- the same for some lines, where the rule was `strict` before them
unfoldable pub early_from : Bool → List Piece → Early
unfolding with_line strict_after announced admitted
early_from strict [] = record { refusals = []; strict = strict; rest = [] }
early_from strict (p ∷ ps) =
    let rule : Bool = strict_after strict (announced (p ∷ [])) in
    with_line rule p ps (early_from rule ps) (admitted rule [] p)

-- the same for a whole text: repeated tags are allowed until a version says otherwise
unfoldable pub early_of : List ℕ → Early
unfolding early_from lines
early_of t = early_from false (lines t)

-- the rows of refused lines that follow each other, from the line `l` on
unfoldable pub rows_from : ℕ → List ℕ → List ℕ
rows_from l [] = []
rows_from l (n ∷ ns) = l ∷ n ∷ rows_from (l + 1) ns
