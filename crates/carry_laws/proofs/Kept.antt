-- The records that carrying on keeps are gathered from the text, each one after those kept before it; and which of them can't be written.
use Prim.Native.Nat.{ℕ, ◌+◌}
use mathlib.Core.Path.{◌≡◌, refl, ap}
use mathlib.Core.Bool.{Bool, true, false, cond}
use mathlib.Core.List.{List, [], ◌∷◌, ◌++◌, append-nil}
use mathlib.Core.Option.{Option, none, some}
use Rattle.format.specs.Lines.{Piece, lines}
use Rattle.format.specs.Records.{Record, Line, refused_line, read}
use Rattle.format.specs.Reading.{is_strict, admitted}
use Rattle.format.specs.Tidy.{is_writable, unwritable}
use Rattle.format.specs.declared.Version.{Version}
use Rattle.accepted.specs.Admits.{Unbarred}
use Rattle.lists.proofs.Bools.{never}
use Rattle.accepted.proofs.Admits.{admitted-read}
use Rattle.tidy_laws.specs.Gathered as ga
use Rattle.tidy_laws.specs.Gathered.{From, Gathered}
use Rattle.format.specs.Carrying.{kept_of, ruling, carried_from, carried_lines, skips, unwritable_line}

-- ---- gathered

carried_from_lem : (v : Option Version) (before : List Record) (ps : List Piece) → From ps (kept_of (carried_from v before ps))
unfolding carried_from kept_of
carried_from_lem v before [] = ga.end
carried_from_lem v before (p ∷ ps) = go (admitted (is_strict w) before p) refl (λ rs. carried_from_lem w rs ps)
  where
    w : Option Version
    w = ruling v before p

    go : (l : Line) → admitted (is_strict w) before p ≡ l → ((rs : List Record) → From ps (kept_of (carried_from w rs ps)))
        → From (p ∷ ps) (kept_of (l ∷ carried_from w (before ++ kept_of (l ∷ [])) ps))
    go (refused_line n) e ih = ga.passed (ih (before ++ []))
    go (read r) e ih = ga.taken (is_strict w) (admitted-read (is_strict w) before p r e).0 (ih (before ++ (r ∷ [])))

carried-unbarred : (v : Option Version) (before : List Record) (ps : List Piece) → Unbarred before (kept_of (carried_from v before ps))
unfolding carried_from kept_of Unbarred
carried-unbarred v before [] = tt
carried-unbarred v before (p ∷ ps) = go (admitted (is_strict w) before p) refl (λ rs. carried-unbarred w rs ps)
  where
    w : Option Version
    w = ruling v before p

    go : (l : Line) → admitted (is_strict w) before p ≡ l → ((rs : List Record) → Unbarred rs (kept_of (carried_from w rs ps)))
        → Unbarred before (kept_of (l ∷ carried_from w (before ++ kept_of (l ∷ [])) ps))
    go (refused_line n) e ih = rw (append-nil before) (ih before)
    go (read r) e ih = ((admitted-read (is_strict w) before p r e).1, ih (before ++ (r ∷ [])))

pub carried-gathered : (t : List ℕ) → Gathered t (kept_of (carried_lines t))
unfolding carried_lines
carried-gathered t = record { from = carried_from_lem none [] (lines t); unbarred = carried-unbarred none [] (lines t) }

-- ---- reference names

-- if all that is kept can be written, so can the records by themselves
pub kept-names : (l m : ℕ) (ls : List Line) → unwritable_line l ls ≡ none → unwritable m (kept_of ls) ≡ none
unfolding unwritable_line unwritable kept_of
kept-names l m [] h = refl
kept-names l m (refused_line n ∷ ls) h = kept-names (l + 1) m ls h
kept-names l m (read r ∷ ls) h = go (is_writable r) (kept-names (l + 1) (m + 1) ls) h
  where
    go : (t : Bool) → (unwritable_line (l + 1) ls ≡ none → unwritable (m + 1) (kept_of ls) ≡ none)
        → cond t (unwritable_line (l + 1) ls) (some l) ≡ none → cond t (unwritable (m + 1) (kept_of ls)) (some m) ≡ none
    go true ih h = ih h
    go false ih h = absurd (never (cc))

-- where no line is skipped, a record's line is its place
pub unskipped-names : (l : ℕ) (ls : List Line) → skips l ls ≡ [] → unwritable_line l ls ≡ unwritable l (kept_of ls)
unfolding unwritable_line unwritable kept_of skips
unskipped-names l [] h = refl
unskipped-names l (refused_line n ∷ ls) h = absurd (never (cc))
unskipped-names l (read r ∷ ls) h = ap (λ o. cond (is_writable r) o (some l)) (unskipped-names (l + 1) ls h)
