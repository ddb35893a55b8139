-- Carrying on is skipping the lines before the first that is kept, and then judging under one rule.
use Prim.Native.Nat.{ℕ, ◌+◌, ◌*◌, ◌≤◌}
use mathlib.Core.Path.{◌≡◌, refl, sym, ap, ◌∙◌}
use mathlib.Core.List.{List, [], ◌∷◌, ◌++◌, map}
use mathlib.Core.Option.{Option, none, some}
use native.Mathlib.Omega.{arith}
use lib.ListN.{length, drop, length-append, length-drop}
use Rattle.format.specs.Lines.{Piece, lines, lines_from}
use Rattle.format.specs.Fields.{later}
use Rattle.format.specs.Records.{Line, refused_line, read}
use Rattle.format.specs.Reading.{announced, is_strict, admitted}
use Rattle.format.specs.Tidy.{tidy}
use Rattle.format.specs.declared.Version.{Version}
use Rattle.read_repeat_rule.specs.Rule.{strict_after}
use Rattle.accepted.proofs.Onward.{lines-count}
use Rattle.tidy_laws.proofs.Total.{gathered-length}
use Rattle.format.specs.Carrying.{kept_of, ruling, carried_from, carried_lines, skips, rows, unwritable_line}
use Rattle.carry_laws.specs.Judged.{judged_from}
use Rattle.carry_laws.proofs.Judged.{steady}
use Rattle.carry_laws.proofs.Count.{judged-length, skips-kept, rows-length}
use Rattle.carry_laws.proofs.Kept.{carried-gathered}
use Rattle.carry_early.specs.Early.{Early, with_line, early_from, early_of, rows_from}
use Rattle.carry_early.specs.First.{First}
use Rattle.carry_early.specs.declared.Begin.{Begin}
use Rattle.carry_lines.specs.Going.{judged_lines}
use Rattle.carry_passes.specs.From.{lines_kept_from, kept_from, skipped_from, rows_of, unwritable_from}

-- the rule by the version, one line further
rule-later : (v a : Option Version) → strict_after (is_strict v) a ≡ is_strict (later v a)
unfolding strict_after later
rule-later v none = refl
rule-later v (some x) = refl

-- the lines of a text by the first that is kept
abbrev split : Early → List Line
split e = map refused_line e.refusals ++ judged_from e.strict [] e.rest

split_from : (v : Option Version) (ps : List Piece) → carried_from v [] ps ≡ split (early_from (is_strict v) ps)
unfolding carried_from early_from judged_from ruling kept_of with_line
split_from v [] = refl
split_from v (p ∷ ps) =
    let w : Option Version = later v (announced (p ∷ [])) in
    go w (admitted (is_strict w) [] p) refl (split_from w ps)
    ∙ ap (λ rule. split (with_line rule p ps (early_from rule ps) (admitted rule [] p))) (sym (rule-later v (announced (p ∷ []))))
  where
    go : (w : Option Version) (l : Line) → admitted (is_strict w) [] p ≡ l → carried_from w [] ps ≡ split (early_from (is_strict w) ps)
        → l ∷ carried_from w (kept_of (l ∷ [])) ps ≡ split (with_line (is_strict w) p ps (early_from (is_strict w) ps) l)
    go w (refused_line n) e ih = ap (λ ls. refused_line n ∷ ls) ih
    go w (read r) e ih = ap (λ ls. read r ∷ ls) (steady w r [] ps) ∙ ap (λ l. l ∷ judged_from (is_strict w) (kept_of (l ∷ [])) ps) (sym e)

split_text : (t : List ℕ) → carried_lines t ≡ split (early_of t)
unfolding carried_lines early_of is_strict
split_text t = split_from none (lines t)

-- ---- after lines that are skipped

kept-after : (ns : List ℕ) (ls : List Line) → kept_of (map refused_line ns ++ ls) ≡ kept_of ls
unfolding kept_of
kept-after [] ls = refl
kept-after (n ∷ ns) ls = kept-after ns ls

names-after : (l : ℕ) (ns : List ℕ) (ls : List Line) → unwritable_line l (map refused_line ns ++ ls) ≡ unwritable_line (l + length ns) ls
unfolding unwritable_line
names-after l [] ls = ap (λ k. unwritable_line k ls) (let z : l ≡ l + 0 = omega arith in z)
names-after l (n ∷ ns) ls = names-after (l + 1) ns ls ∙ ap (λ k. unwritable_line k ls) (let z : l + 1 + length ns ≡ l + length (n ∷ ns) = omega arith in z)

rows-after : (l : ℕ) (ns : List ℕ) (ls : List Line) → rows (skips l (map refused_line ns ++ ls)) ≡ rows_from l ns ++ rows (skips (l + length ns) ls)
unfolding rows skips rows_from
rows-after l [] ls = ap (λ k. rows (skips k ls)) (let z : l ≡ l + 0 = omega arith in z)
rows-after l (n ∷ ns) ls =
    ap (λ xs. l ∷ n ∷ xs) (rows-after (l + 1) ns ls ∙ ap (λ k. rows_from (l + 1) ns ++ rows (skips k ls)) (let z : l + 1 + length ns ≡ l + length (n ∷ ns) = omega arith in z))

rows-early : (l : ℕ) (ns : List ℕ) → length (rows_from l ns) ≡ length ns + length ns
unfolding rows_from
rows-early l [] = refl
rows-early l (n ∷ ns) = omega (arith, rows-early (l + 1) ns)

-- ---- by where the first line that is kept is

module _ (t : List ℕ) (b : Begin) (f : First t b) where
  pub lined : carried_lines t ≡ map refused_line (early_of t).refusals ++ lines_kept_from t b
  unfolding judged_lines
  lined = split_text t ∙ rw (f.strict, f.rest) refl

  pub first-kept : kept_of (carried_lines t) ≡ kept_from t b
  unfolding kept_from
  first-kept = ap kept_of lined ∙ kept-after (early_of t).refusals (lines_kept_from t b)

  pub first-names : unwritable_line 0 (carried_lines t) ≡ unwritable_from t b
  first-names =
      let ls = lines_kept_from t b in
      ap (unwritable_line 0) lined ∙ names-after 0 (early_of t).refusals ls ∙ ap (λ k. unwritable_line k ls) (omega (arith, f.line))

  pub first_rows : rows (skips 0 (carried_lines t)) ≡ rows_from 0 (early_of t).refusals ++ rows_of t b
  unfolding rows_of
  first_rows =
      let ls = lines_kept_from t b in
      ap (λ ls. rows (skips 0 ls)) lined
      ∙ rows-after 0 (early_of t).refusals ls
      ∙ ap (λ k. rows_from 0 (early_of t).refusals ++ rows (skips k ls)) (omega (arith, f.line))

  -- the rows before the first line that is kept
  pub early-rows : length (rows_from 0 (early_of t).refusals) ≡ b.line + b.line
  early-rows = omega (arith, rows-early 0 (early_of t).refusals, f.line)

  -- one byte longer than the text at most
  pub first_small : length (tidy (kept_from t b)) ≤ length t + 1
  first_small = rw (← first-kept) (gathered-length t (kept_of (carried_lines t)) (carried-gathered t))

  -- two numbers per skipped line
  pub first_count : length (rows (skips 0 (carried_lines t))) ≡ (b.line + length (skipped_from t b)) * 2
  unfolding rows_of
  first_count =
      omega (
        arith,
        ap length first_rows,
        length-append (rows_from 0 (early_of t).refusals) (rows_of t b),
        early-rows,
        rows-length (skipped_from t b),
      )

  pub skips-few : length (skipped_from t b) ≤ length t
  unfolding judged_lines
  skips-few =
      let ps = lines_from b.at (drop b.at t) in
      omega (
        arith,
        skips-kept b.line (lines_kept_from t b),
        judged-length b.strict [] ps,
        lines-count b.at (drop b.at t),
        length-drop b.at t,
      )
