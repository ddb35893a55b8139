-- Reading is carrying on up to the first skip.
use Prim.Native.Nat.{ℕ, ◌+◌, ◌≤◌}
use mathlib.Core.Path.{◌≡◌, refl, sym, ap, ◌∙◌}
use mathlib.Core.Bool.{Bool}
use mathlib.Core.List.{List, [], ◌∷◌, ◌++◌, append-nil}
use mathlib.Core.Option.{Option, none, some}
use lib.ListN.{length}
use borrow.Author.Tests.{le-ltb}
use Rattle.format.specs.Lines.{Piece, lines}
use Rattle.format.specs.Fields.{later}
use Rattle.format.specs.Records.{Record, Line, refused_line, read}
use Rattle.format.specs.Reading.{announced, is_strict, admitted, read_on, read_from, longest, read_text}
use Rattle.format.specs.Calls.{read_answer, records}
use Rattle.format.specs.declared.Version.{Version}
use Rattle.format.specs.Carrying.{kept_of, ruling, carried_from, carried_lines, skips}
use Rattle.carry_laws.specs.Judged.{judged_from}
use Rattle.carry_laws.specs.Carried.{unless_skipped}
use Rattle.carry_laws.proofs.Judged.{steady, kept_more}

-- under one rule
judged-reads : (strict : Bool) (l : ℕ) (before : List Record) (ps : List Piece)
    → read_answer (read_from strict l before ps) ≡ unless_skipped (skips l (judged_from strict before ps)) (before ++ kept_of (judged_from strict before ps))
unfolding read_from read_answer judged_from skips kept_of unless_skipped read_on
judged-reads strict l before [] = ap (unless_skipped []) (sym (append-nil before))
judged-reads strict l before (p ∷ ps) = go (admitted strict before p) (λ r. judged-reads strict (l + 1) (before ++ (r ∷ [])) ps)
  where
    go : (i : Line)
        → ((r : Record) → read_answer (read_from strict (l + 1) (before ++ (r ∷ [])) ps)
        ≡ unless_skipped (skips (l + 1) (judged_from strict (before ++ (r ∷ [])) ps)) ((before ++ (r ∷ [])) ++ kept_of (judged_from strict (before ++ (r ∷ [])) ps)))
        → read_answer (read_on l (λ r. read_from strict (l + 1) (before ++ (r ∷ [])) ps) i)
        ≡ unless_skipped (skips l (i ∷ judged_from strict (before ++ kept_of (i ∷ [])) ps)) (before ++ kept_of (i ∷ judged_from strict (before ++ kept_of (i ∷ [])) ps))
    go (refused_line n) ih = refl
    go (read r) ih = ih r ∙ ap (unless_skipped (skips (l + 1) (judged_from strict (before ++ (r ∷ [])) ps))) (kept_more before (read r) (judged_from strict (before ++ (r ∷ [])) ps))

later-none : {A : Type 0} (v : Option A) → later none v ≡ v
unfolding later
later-none none = refl
later-none (some a) = refl

-- the first line sets the rule, and if it is kept the rule stays
lines-read : (ps : List Piece) → read_answer (read_from (is_strict (announced ps)) 0 [] ps) ≡ unless_skipped (skips 0 (carried_from none [] ps)) (kept_of (carried_from none [] ps))
unfolding read_from read_answer announced carried_from ruling skips kept_of unless_skipped read_on
lines-read [] = refl
lines-read (p ∷ ps) =
    let w : Option Version = ruling none [] p in
    ap (λ v. read_answer (read_from (is_strict v) 0 [] (p ∷ ps))) (sym (later-none (announced (p ∷ ps)))) ∙ go w (admitted (is_strict w) [] p)
  where
    go : (w : Option Version) (i : Line)
        → read_answer (read_on 0 (λ r. read_from (is_strict w) 1 (r ∷ []) ps) i)
        ≡ unless_skipped (skips 0 (i ∷ carried_from w (kept_of (i ∷ [])) ps)) (kept_of (i ∷ carried_from w (kept_of (i ∷ [])) ps))
    go w (refused_line n) = refl
    go w (read r) = judged-reads (is_strict w) 1 (r ∷ []) ps ∙ ap (λ ls. unless_skipped (skips 1 ls) (r ∷ kept_of ls)) (sym (steady w r [] ps))

pub reads : (t : List ℕ) → length t ≤ 16777216 → records t ≡ unless_skipped (skips 0 (carried_lines t)) (kept_of (carried_lines t))
unfolding records read_text longest carried_lines
reads t h = rw (le-ltb 16777216 (length t) h) (lines-read (lines t))
