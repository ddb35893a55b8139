-- How many lines are judged, kept and skipped: each line is kept or skipped.
use Prim.Native.Nat.{ℕ, suc, ◌+◌, ◌/◌, ◌≤◌}
use mathlib.Core.Path.{◌≡◌, refl, ap}
use mathlib.Core.Bool.{Bool}
use mathlib.Core.List.{List, [], ◌∷◌, ◌++◌}
use mathlib.Core.Option.{Option, none}
use native.Mathlib.Omega.{arith}
use lib.ListN.{length}
use Rattle.format.specs.Lines.{Piece, lines}
use Rattle.format.specs.Records.{Record, Line, refused_line, read}
use Rattle.format.specs.Reading.{is_strict, admitted}
use Rattle.format.specs.declared.Version.{Version}
use Rattle.accepted.proofs.Onward.{lines-count}
use Rattle.format.specs.Carrying.{kept_of, ruling, carried_from, carried_lines, Skip, skips, rows}
use Rattle.carry_laws.specs.Judged.{judged_from}

-- each line is one line
pub judged-length : (strict : Bool) (before : List Record) (ps : List Piece) → length (judged_from strict before ps) ≡ length ps
unfolding judged_from
judged-length strict before [] = refl
judged-length strict before (p ∷ ps) = ap suc (judged-length strict (before ++ kept_of (admitted strict before p ∷ [])) ps)

carried-length : (v : Option Version) (before : List Record) (ps : List Piece) → length (carried_from v before ps) ≡ length ps
unfolding carried_from
carried-length v before [] = refl
carried-length v before (p ∷ ps) =
    let w : Option Version = ruling v before p in
    ap suc (carried-length w _ ps)

-- it is kept or skipped
pub skips-kept : (l : ℕ) (ls : List Line) → length (skips l ls) + length (kept_of ls) ≡ length ls
unfolding skips kept_of
skips-kept l [] = refl
skips-kept l (refused_line n ∷ ls) = omega (arith, skips-kept (l + 1) ls)
skips-kept l (read r ∷ ls) = omega (arith, skips-kept (l + 1) ls)

-- two numbers per skipped line
pub rows-length : (ss : List Skip) → length (rows ss) ≡ length ss + length ss
unfolding rows
rows-length [] = refl
rows-length (s ∷ ss) = omega (arith, rows-length ss)

-- at most as many as the text has bytes
pub rows_few : (t : List ℕ) → length (rows (skips 0 (carried_lines t))) / 2 ≤ length t
unfolding carried_lines lines
rows_few t =
    omega (
      arith,
      rows-length (skips 0 (carried_lines t)),
      skips-kept 0 (carried_lines t),
      carried-length none [] (lines t),
      lines-count 0 t,
    )
