-- The faults of the line of a step, and how many there are.
use Prim.Native.Nat.{ℕ, zero, suc, ◌+◌, ◌*◌, ◌≤◌, ◌<◌}
use mathlib.Core.Path.{◌≡◌, refl, sym, ap, ap₂, ◌∙◌}
use mathlib.Core.Bool.{Bool, true, false, cond}
use mathlib.Core.List.{List, [], ◌∷◌, ◌++◌}
use native.Mathlib.Omega.{arith}
use lib.ListN.{length, take, drop, length-append, take-append-drop}
use lib.Seq.{take-add}
use lib.Dec.{eqb}
use borrow.Author.Tests.{eq-eqb, ne_eqb}
use Rattle.format.specs.Records.{Record, header, reference, group, program, comment, code, Line, refused_line, read, line}
use Rattle.format.specs.Reading.{of_kind}
use Rattle.format.specs.Programs.{Link, programs}
use Rattle.format.specs.Tidy.{is_writable}
use Rattle.accepted.specs.Read.{is_read}
use Rattle.lists.proofs.Bools.{never}
use Rattle.byte_slices.specs.Over.{over}
use Rattle.byte_slices.proofs.Over.{over-over}
use Rattle.tidy_line.specs.Line.{line_writable}
use Rattle.format.specs.Carrying.{kept_of, Skip, rows}
use Rattle.carry_lines.specs.Going.{Going, judged_lines}
use Rattle.carry_lines.specs.declared.Cursor.{Cursor}
use Rattle.carry_passes.specs.NextLine.{lent_to, Turn}
use Rattle.fault_programs.specs.Plain.{plain_at, one_if, plain_count}
use Rattle.fault_programs.proofs.KeptPrograms.{programs_in, programs-append, programs-done}
use Rattle.format.specs.Faults.{link_fault, record_fault, next_program, if_faulty, faults_from}
use Rattle.fault_lines.specs.Links.{link_count, step_fault}

-- ---- one line

-- the ordinal of the next program, by how many there are
next-is : (i j : ℕ) (r : Record) → j ≡ i + length (programs_in (read r ∷ [])) → next_program i r ≡ j
unfolding next_program code kept_of programs of_kind
next-is i j (header v fs) e = omega (arith, e)
next-is i j (reference p n fs) e = omega (arith, e)
next-is i j (group p fs) e = omega (arith, e)
next-is i j (program p fs) e = sym e
next-is i j (comment p) e = omega (arith, e)

-- the fault of a record by how many programs there are with it
record_is : (ks : List Link) (i j : ℕ) (r : Record) → j ≡ i + length (programs_in (read r ∷ [])) → record_fault ks i r ≡ step_fault ks i j (cond (is_writable r) 0 24)
unfolding record_fault step_fault code kept_of programs of_kind is_writable
record_is ks i j (header v fs) e = rw (eq-eqb j i (omega (arith, e))) refl
record_is ks i j (reference p n fs) e = go (is_writable (reference p n fs)) (eq-eqb j i (omega (arith, e)))
  where
    go : (b : Bool) → eqb j i ≡ true → cond {A = ℕ} b 0 24 ≡ step_fault ks i j (cond b 0 24)
    go true q = rw q refl
    go false q = refl
record_is ks i j (group p fs) e = rw (eq-eqb j i (omega (arith, e))) refl
record_is ks i j (program p fs) e = rw (ne_eqb j i (λ z. omega (arith, e, z))) refl
record_is ks i j (comment p) e = rw (eq-eqb j i (omega (arith, e))) refl

-- a line that is judged: `m` is its fault whatever the links are
line-faults : (ks : List Link) (l i j : ℕ) (x : Line) (ls : List Line) (n : ℕ) (at : Line) → (n ≡ 0 → (x ≡ at) × (is_read x ≡ true)) → (0 < n → x ≡ refused_line n)
    → j ≡ i + length (programs_in (x ∷ [])) → faults_from ks l i (x ∷ ls) ≡ if_faulty l (step_fault ks i j (plain_at n at)) (faults_from ks (l + 1) j ls)
unfolding faults_from plain_at step_fault if_faulty is_read line_writable kept_of programs of_kind
line-faults ks l i j (refused_line k) ls zero at kept skipped e = let z : is_read (refused_line k) ≡ true = (kept refl).1 in absurd (never cc)
line-faults ks l i j (refused_line k) ls (suc n) at kept skipped e =
    let y : refused_line k ≡ refused_line (suc n) = skipped (omega arith) in
    let z : k ≡ suc n = cc in
    ap₂ (λ m p. record { line = l; refusal = m } ∷ faults_from ks (l + 1) p ls) z (let q : i ≡ j = omega (arith, e) in q)
line-faults ks l i j (read r) ls zero at kept skipped e =
    ap₂ (λ m p. if_faulty l m (faults_from ks (l + 1) p ls)) (record_is ks i j r e) (next-is i j r e)
    ∙ ap (λ x. if_faulty l (step_fault ks i j (cond (line_writable x) 0 24)) (faults_from ks (l + 1) j ls)) (kept refl).0
line-faults ks l i j (read r) ls (suc n) at kept skipped e = let z : read r ≡ refused_line (suc n) = skipped (omega arith) in absurd (never cc)

-- ---- of a step

module _ (strict : Bool) (t : List ℕ) (from : ℕ) (area ids : List ℕ) (c : Cursor) (g : Going strict t from area ids c)
    (a i : List ℕ) (d : Cursor) (h : Going strict t from a i d) (on : d.line ≡ c.line + 1) (end n : ℕ) (u : Turn strict t from c end n) (ks : List Link) where
  abbrev all : List Line
  all = judged_lines strict t from

  -- the programs with the line
  pub with-line : d.programs ≡ c.programs + length (programs_in (u.judged ∷ []))
  with-line =
      let one : take d.line all ≡ take c.line all ++ (u.judged ∷ []) =
      ap (λ k. take k all) on ∙ take-add c.line 1 all ∙ ap (λ ls. take c.line all ++ take 1 ls) u.more in
      omega (
        arith,
        programs-done strict t from a i d h,
        programs-done strict t from area ids c g,
        ap (λ ls. length (programs_in ls)) one,
        ap length (programs-append (take c.line all) (u.judged ∷ [])),
        length-append (programs_in (take c.line all)) (programs_in (u.judged ∷ [])),
      )

  turn-faults : (l m f : ℕ) → m ≡ plain_at n (line strict (record { at = c.at; bytes = lent_to t c.at end })) → f ≡ step_fault ks c.programs d.programs m
      → faults_from ks l c.programs (drop c.line all) ≡ if_faulty l f (faults_from ks (l + 1) d.programs (drop d.line all))
  turn-faults l m f p q =
      ap (faults_from ks l c.programs) u.more
      ∙ line-faults ks l c.programs d.programs u.judged (drop (c.line + 1) all) n (line strict (record { at = c.at; bytes = lent_to t c.at end })) u.kept u.skipped with-line
      ∙ ap₂ (λ f k. if_faulty l f (faults_from ks (l + 1) d.programs (drop k all))) (sym (q ∙ ap (step_fault ks c.programs d.programs) p)) (sym on)

  -- where the lines are counted from `base` on
  pub turn-rows : (base m f : ℕ) → m ≡ plain_at n (line strict (record { at = c.at; bytes = lent_to t c.at end })) → f ≡ step_fault ks c.programs d.programs m
      → rows (faults_from ks (base + c.line) c.programs (drop c.line all)) ≡ rows (if_faulty (base + c.line) f (faults_from ks (base + d.line) d.programs (drop d.line all)))
  turn-rows base m f p q =
      ap rows (turn-faults (base + c.line) m f p q)
      ∙ ap (λ k. rows (if_faulty (base + c.line) f (faults_from ks k d.programs (drop d.line all)))) (let z : base + c.line + 1 ≡ base + d.line = omega (arith, on) in z)

-- there are no more programs than in all lines
pub programs-within : (strict : Bool) (t : List ℕ) (from : ℕ) (area ids : List ℕ) (c : Cursor) → Going strict t from area ids c → c.programs ≤ length (programs_in (judged_lines strict t from))
programs-within strict t from area ids c g =
    let ls : List Line = judged_lines strict t from in
    omega (
      arith,
      programs-done strict t from area ids c g,
      ap (λ xs. length (programs_in xs)) (take-append-drop c.line ls),
      ap length (programs-append (take c.line ls) (drop c.line ls)),
      length-append (programs_in (take c.line ls)) (programs_in (drop c.line ls)),
    )

-- ---- rows

module _ (l : ℕ) (ss : List Skip) (row : ℕ) (table : List ℕ) where
  -- no row, and the rows to come are where they were
  pub row-none : (n : ℕ) → n ≡ 0 → rows (if_faulty l n ss) ≡ rows ss
  unfolding if_faulty
  row-none n z = ap (λ k. rows (if_faulty l k ss)) z

  -- a row
  pub row_one : (n : ℕ) → (n ≡ 0 → ⊥) → rows (if_faulty l n ss) ≡ l ∷ n ∷ rows ss
  unfolding if_faulty rows
  row_one zero h = absurd (h refl)
  row_one (suc n) h = refl

  -- and those to come after it
  pub row-over : (n : ℕ) → (n ≡ 0 → ⊥) → row * 2 + length (rows (if_faulty l n ss)) ≤ length table
      → over (over table (row * 2) (l ∷ n ∷ [])) ((row + 1) * 2) (rows ss) ≡ over table (row * 2) (rows (if_faulty l n ss))
  row-over n h room =
      let e = row_one n h in
      ap (λ r. over (over table (row * 2) (l ∷ n ∷ [])) r (rows ss)) (let z : (row + 1) * 2 ≡ row * 2 + 2 = omega arith in z)
      ∙ over-over table (row * 2) (l ∷ n ∷ []) (rows ss) (omega (arith, room, ap length e))
      ∙ ap (over table (row * 2)) (sym e)

-- ---- how many

pub faulty-one : (l n : ℕ) (ss : List Skip) → length (if_faulty l n ss) ≡ one_if n + length ss
unfolding if_faulty one_if
faulty-one l zero ss = omega arith
faulty-one l (suc n) ss = omega arith

-- faults whatever the links are, and those by the links
pub faults-count : (ks : List Link) (l i : ℕ) (ls : List Line) → length (faults_from ks l i ls) ≡ plain_count ls + link_count ks i (length (programs_in ls))
unfolding faults_from plain_count link_count kept_of programs of_kind code record_fault next_program is_writable line_writable plain_at one_if if_faulty
faults-count ks l i [] = refl
faults-count ks l i (refused_line n ∷ ls) = omega (arith, faults-count ks (l + 1) i ls)
faults-count ks l i (read (header v fs) ∷ ls) = omega (arith, faults-count ks (l + 1) i ls)
faults-count ks l i (read (reference p n fs) ∷ ls) = go (is_writable (reference p n fs)) (faults-count ks (l + 1) i ls)
  where
    go : (b : Bool) → length (faults_from ks (l + 1) i ls) ≡ plain_count ls + link_count ks i (length (programs_in ls))
        → length (if_faulty l (cond b 0 24) (faults_from ks (l + 1) i ls)) ≡ one_if (cond b 0 24) + plain_count ls + link_count ks i (length (programs_in ls))
    go true ih = omega (arith, ih)
    go false ih = omega (arith, ih)
faults-count ks l i (read (group p fs) ∷ ls) = omega (arith, faults-count ks (l + 1) i ls)
faults-count ks l i (read (program p fs) ∷ ls) = omega (arith, faults-count ks (l + 1) (i + 1) ls, faulty-one l (link_fault ks i) (faults_from ks (l + 1) (i + 1) ls))
faults-count ks l i (read (comment p) ∷ ls) = omega (arith, faults-count ks (l + 1) i ls)
