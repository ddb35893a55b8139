-- The rows of the faults by where the first line that is kept is, and the answer in the code's numbers.
use Prim.Native.Nat.{ℕ, zero, suc, ◌+◌, ◌*◌, ◌/◌, ◌≤◌, ◌<◌}
use mathlib.Core.Path.{◌≡◌, refl, sym, ap, ap₂, subst, ◌∙◌}
use mathlib.Core.List.{List, [], ◌∷◌, ◌++◌, map}
use native.Mathlib.Omega.{arith}
use lib.ListN.{length, take, drop, length-append, length-map, length-drop}
use borrow.Author.Tests.{lt-ltb, le-ltb}
use Rattle.format.specs.Lines.{lines_from}
use Rattle.format.specs.Records.{Line, refused_line, read}
use Rattle.format.specs.Reading.{longest, of_kind}
use Rattle.format.specs.Programs.{Link, links, programs, program_of}
use Rattle.format.specs.Calls.{Answer, refused, yes, fitting}
use Rattle.std.specs.Prelude.{Ok, Err}
use Rattle.format.specs.declared.Refusal.{Refusal}
use Rattle.byte_slices.specs.Over.{over}
use Rattle.byte_slices.specs.Stands.{Each}
use Rattle.accepted.proofs.Onward.{lines-count}
use Rattle.accepted.proofs.Apart.{unbarred-programs}
use Rattle.program_chains.specs.Parents.{in_array}
use Rattle.program_chains.proofs.Arrays.{front, front-inside}
use Rattle.program_chains.proofs.Paths.{Below}
use Rattle.read.specs.Answers.{output_of}
use Rattle.read.proofs.AnswerCases.{written-answer}
use Rattle.program_parents.specs.Parents.{link_number}
use Rattle.program_parents.proofs.Numbers.{numbers, numbers-count, links-count, link-below}
use Rattle.format.specs.Carrying.{kept_of, carried_lines, Skip, rows}
use Rattle.carry_laws.proofs.Count.{rows-length, judged-length}
use Rattle.carry_laws.proofs.Kept.{carried-gathered}
use Rattle.carry_early.specs.Early.{early_of, rows_from}
use Rattle.carry_early.specs.First.{First}
use Rattle.carry_early.specs.declared.Begin.{Begin}
use Rattle.carry_passes.specs.From.{lines_kept_from, kept_from}
use Rattle.carry_passes.proofs.Split.{lined, first-kept, early-rows}
use Rattle.carry_lines.specs.Going.{judged_lines}
use Rattle.fault_programs.specs.Plain.{plain_at, plain_count}
use Rattle.fault_programs.proofs.KeptPrograms.{one-le}
use Rattle.fault_programs.specs.declared.KeptLinks.{KeptLinks}
use Rattle.format.specs.Faults.{link_fault, faults_from, faults_in, faulting}
use Rattle.fault_lines.specs.Links.{links_in, Within, link_count}
use Rattle.fault_lines.proofs.Links.{same-links, all-within}
use Rattle.fault_lines.proofs.Rows.{faults-count}
use Rattle.faults.specs.Answers.{faulty_lines, IsLinks}

-- ---- the call's answer

module _ (t : List ℕ) (table : ℕ) where
  abbrev found : List ℕ
  found = rows (faults_in (carried_lines t))

  pub told-long : 16777216 < length t → faulting t table ≡ refused 1 0
  unfolding faulting longest
  told-long h = rw (lt-ltb 16777216 (length t) h) refl

  module _ (h : length t ≤ 16777216) where
    pub told-short : table < length found → faulting t table ≡ refused 20 0
    unfolding faulting longest fitting
    told-short s = rw (le-ltb 16777216 (length t) h, lt-ltb table (length found) s) refl

    pub told-fits : length found ≤ table → faulting t table ≡ yes found
    unfolding faulting longest fitting
    told-fits s = rw (le-ltb 16777216 (length t) h, le-ltb table (length found) s) refl

module _ (a : Answer (List ℕ)) (table : List ℕ) where
  pub refused_all : (r : Refusal) → a ≡ refused r.number r.line.0 → (Err r ≡ faulty_lines a) × (table ≡ output_of a table)
  unfolding faulty_lines output_of
  refused_all r e = (sym (ap faulty_lines e), sym (ap (λ x. output_of x table) e))

  pub written_all : (xs table' : List ℕ) (n : ℕ) → a ≡ yes xs → n ≡ length xs / 2 → table' ≡ over table 0 xs → (Ok n ≡ faulty_lines a) × (table' ≡ output_of a table)
  unfolding faulty_lines
  written_all xs table' n e p w = (ap Ok p ∙ sym (ap faulty_lines e), (written-answer a table xs table' (length xs) e refl w).1)

-- ---- counts are small

plain-le : (ls : List Line) → plain_count ls ≤ length ls
unfolding plain_count
plain-le [] = omega arith
plain-le (refused_line n ∷ ls) = omega (arith, plain-le ls)
plain-le (read r ∷ ls) = omega (arith, plain-le ls, one-le (plain_at 0 (read r)))

links-le : (ks : List Link) (i m : ℕ) → link_count ks i m ≤ m
unfolding link_count
links-le ks i zero = omega arith
links-le ks i (suc m) = omega (arith, links-le ks (i + 1) m, one-le (link_fault ks i))

lines-few : (t : List ℕ) (b : Begin) → length (lines_kept_from t b) ≤ length t
unfolding judged_lines
lines-few t b =
    omega (arith, judged-length b.strict [] (lines_from b.at (drop b.at t)), lines-count b.at (drop b.at t), length-drop b.at t)

pub counts-small : (t : List ℕ) (b : Begin) (k : KeptLinks) → First t b → IsLinks t b k → length t ≤ 16777216 → (n m : ℕ) (ks : List Link) → n ≡ link_count ks 0 m → m ≤ 1024
    → (k.plain ≤ 16777216) × ((n ≤ 1024) × (b.line ≤ 16777216))
counts-small t b k f is h n m ks e few =
    (omega (arith, is.plain, plain-le (lines_kept_from t b), lines-few t b), (omega (arith, e, links-le ks 0 m), omega (arith, f.slow, f.inside)))

-- ---- before the first line that is kept

faults-after : (ks : List Link) (l i : ℕ) (ns : List ℕ) (ls : List Line) → rows (faults_from ks l i (map refused_line ns ++ ls)) ≡ rows_from l ns ++ rows (faults_from ks (l + length ns) i ls)
unfolding rows faults_from rows_from
faults-after ks l i [] ls = ap (λ k. rows (faults_from ks k i ls)) (let z : l ≡ l + 0 = omega arith in z)
faults-after ks l i (n ∷ ns) ls =
    ap (λ xs. l ∷ n ∷ xs) (faults-after ks (l + 1) i ns ls ∙ ap (λ k. rows_from (l + 1) ns ++ rows (faults_from ks k i ls)) (let z : l + 1 + length ns ≡ l + length (n ∷ ns) = omega arith in z))

each_below : (ps : List Rattle.format.specs.Programs.Program) (qs : List Rattle.format.specs.Programs.Program) → Each (Below (length ps)) (map (λ p. Rattle.format.specs.Programs.link ps p.previous) qs)
unfolding Each
each_below ps [] = tt
each_below ps (q ∷ qs) = (link-below ps q.previous, each_below ps qs)

module _ (t : List ℕ) (b : Begin) (f : First t b) where
  abbrev ks : List Link
  ks = links (programs (kept_from t b))

  -- the rows of the lines from there on
  abbrev pub left : List ℕ
  left = rows (faults_from ks b.line 0 (lines_kept_from t b))

  pub all-rows : rows (faults_in (carried_lines t)) ≡ rows_from 0 (early_of t).refusals ++ left
  unfolding faults_in
  all-rows =
      ap (λ rs. rows (faults_from (links (programs rs)) 0 0 (carried_lines t))) (first-kept t b f)
      ∙ ap (λ ls. rows (faults_from ks 0 0 ls)) (lined t b f)
      ∙ faults-after ks 0 0 (early_of t).refusals (lines_kept_from t b)
      ∙ ap (λ k. rows_from 0 (early_of t).refusals ++ rows (faults_from ks k 0 (lines_kept_from t b))) (let z : 0 + length (early_of t).refusals ≡ b.line = omega (arith, f.line) in z)

  pub few : length (programs (kept_from t b)) ≤ 1024
  unfolding programs of_kind
  few =
      rw (length-map (of_kind 4 (kept_from t b)) program_of)
      (subst (λ rs. length (of_kind 4 rs) ≤ 1024) (first-kept t b f) (unbarred-programs [] (kept_of (carried_lines t)) (carried-gathered t).unbarred (omega arith)))

  module _ (k : KeptLinks) (is : IsLinks t b k) where
    abbrev ps : List ℕ
    ps = take k.count k.parents

    same_count : k.count ≡ length (numbers (programs (kept_from t b)))
    same_count = is.count ∙ sym (numbers-count (programs (kept_from t b)))

    pub fronted : ps ≡ numbers (programs (kept_from t b))
    fronted = front (numbers (programs (kept_from t b))) k.parents k.count is.parents same_count

    pub inside : k.count ≤ length k.parents
    inside = front-inside (numbers (programs (kept_from t b))) k.parents k.count is.parents same_count

    pub front_length : length ps ≡ length (programs (kept_from t b))
    front_length = ap length fronted ∙ numbers-count (programs (kept_from t b))

    pub count-length : k.count ≡ length ps
    count-length = is.count ∙ sym front_length

    below : Each (Below (length (programs (kept_from t b)))) ks
    unfolding links
    below = each_below (programs (kept_from t b)) (programs (kept_from t b))

    pub same : links_in ps ≡ ks
    same = ap links_in fronted ∙ same-links (length (programs (kept_from t b))) few ks below

    pub within : Within ps
    within = subst Within (sym fronted) (all-within (length (programs (kept_from t b))) few ks (links-count (programs (kept_from t b))) below)

    pub left_is : rows (faults_from (links_in ps) b.line 0 (lines_kept_from t b)) ≡ left
    left_is = ap (λ ks. rows (faults_from ks b.line 0 (lines_kept_from t b))) same

    -- two numbers per faulty line
    pub all-count : (n : ℕ) → n ≡ link_count (links_in ps) 0 (length ps) → length (rows (faults_in (carried_lines t))) ≡ (b.line + (k.plain + n)) * 2
    unfolding kept_from
    all-count n e =
        omega (
          arith,
          ap length all-rows,
          length-append (rows_from 0 (early_of t).refusals) left,
          early-rows t b f,
          rows-length (faults_from ks b.line 0 (lines_kept_from t b)),
          faults-count ks b.line 0 (lines_kept_from t b),
          is.plain,
          e ∙ ap₂ (λ ks m. link_count ks 0 m) same front_length,
        )
