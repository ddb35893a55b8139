-- Carrying on judges line by line: once a line is kept, under one rule; and lines after lines.
use mathlib.Core.Path.{◌≡◌, refl, sym, ap, ◌∙◌}
use mathlib.Core.Bool.{Bool}
use mathlib.Core.List.{List, [], ◌∷◌, ◌++◌, append-nil, append_assoc}
use mathlib.Core.Option.{Option}
use Rattle.format.specs.Lines.{Piece}
use Rattle.format.specs.Records.{Record, Line, refused_line, read}
use Rattle.format.specs.Reading.{is_strict, admitted}
use Rattle.format.specs.declared.Version.{Version}
use Rattle.format.specs.Carrying.{kept_of, ruling, carried_from}
use Rattle.carry_laws.specs.Judged.{judged_from}

-- after a record, the rule stays
pub steady : (v : Option Version) (r : Record) (rs : List Record) (ps : List Piece) → carried_from v (r ∷ rs) ps ≡ judged_from (is_strict v) (r ∷ rs) ps
unfolding carried_from judged_from ruling
steady v r rs [] = refl
steady v r rs (p ∷ ps) =
    let l : Line = admitted (is_strict v) (r ∷ rs) p in
    ap (λ ls. l ∷ ls) (steady v r (rs ++ kept_of (l ∷ [])) ps)

pub kept_append : (ls ms : List Line) → kept_of (ls ++ ms) ≡ kept_of ls ++ kept_of ms
unfolding kept_of
kept_append [] ms = refl
kept_append (refused_line n ∷ ls) ms = kept_append ls ms
kept_append (read r ∷ ls) ms = ap (λ rs. r ∷ rs) (kept_append ls ms)

-- what is kept of a line, and then of more
pub kept_more : (before : List Record) (l : Line) (ls : List Line) → (before ++ kept_of (l ∷ [])) ++ kept_of ls ≡ before ++ kept_of (l ∷ ls)
kept_more before l ls = append_assoc before (kept_of (l ∷ [])) (kept_of ls) ∙ ap (λ rs. before ++ rs) (sym (kept_append (l ∷ []) ls))

-- lines, and then more lines
pub judged-append : (strict : Bool) (before : List Record) (ps qs : List Piece)
    → judged_from strict before (ps ++ qs) ≡ judged_from strict before ps ++ judged_from strict (before ++ kept_of (judged_from strict before ps)) qs
unfolding judged_from kept_of
judged-append strict before [] qs = ap (λ rs. judged_from strict rs qs) (sym (append-nil before))
judged-append strict before (p ∷ ps) qs =
    let l : Line = admitted strict before p in
    let on : List Record = before ++ kept_of (l ∷ []) in
    ap (λ ls. l ∷ ls) (judged-append strict on ps qs ∙ ap (λ rs. judged_from strict on ps ++ judged_from strict rs qs) (kept_more before l (judged_from strict on ps)))
