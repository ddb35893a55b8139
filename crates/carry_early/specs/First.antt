-- Where the first kept line is.
use Rattle.std.specs.Prelude.{ℕ, ◌≤◌, ◌≡◌, List, [], ◌∷◌, length, drop}
use Rattle.format.specs.Lines.{Piece, lines_from}
use Rattle.carry_early.specs.Early.{early_of}
use Rattle.carry_early.specs.declared.Begin.{Begin}

-- where the first of some lines starts, or the end of the text if there are none
unfoldable pub start_of : ℕ → List Piece → ℕ
start_of end [] = end
start_of end (p ∷ ps) = p.at

-- the first kept line of `t` starts at `b`, or `b` is the end of the text and no line is kept
pub record First (t : List ℕ) (b : Begin) : Type 0 where
  pub place : b.at ≡ start_of (length t) (early_of t).rest
  pub inside : b.at ≤ length t
  pub rest : lines_from b.at (drop b.at t) ≡ (early_of t).rest
  pub line : b.line ≡ length (early_of t).refusals
  pub slow : b.line ≤ b.at
  pub strict : b.strict ≡ (early_of t).strict
