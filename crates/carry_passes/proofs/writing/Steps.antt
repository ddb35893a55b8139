-- What a step of writing adds: the output and the table, one line further.
use Prim.Native.Nat.{ℕ, zero, suc, ◌+◌, ◌*◌, ◌≤◌, ◌<◌}
use mathlib.Core.Path.{◌≡◌, refl, sym, ap, subst, ◌∙◌}
use mathlib.Core.Bool.{Bool, true}
use mathlib.Core.List.{List, [], ◌∷◌}
use native.Mathlib.Omega.{arith}
use lib.ListN.{length}
use Rattle.format.specs.Records.{Line, refused_line, read}
use Rattle.format.specs.declared.Kind.{Kind}
use Rattle.byte_slices.specs.Over.{over}
use Rattle.byte_slices.proofs.Over.{over-over}
use Rattle.accepted.specs.Read.{is_read}
use Rattle.lists.proofs.Bools.{never}
use Rattle.tidy_line.specs.Line.{line_text}
use Rattle.tidy_sizes.specs.Numbers.{get, plus}
use Rattle.tidy_sizes.specs.declared.PerKind.{PerKind}
use Rattle.tidy_text.specs.Placed.{with_parts, parts, Apart}
use Rattle.tidy_text.proofs.Parts.{split-turn}
use Rattle.format.specs.Carrying.{kept_of, skips, rows}
use Rattle.carry_lines.specs.declared.Cursor.{Cursor}
use Rattle.carry_passes.specs.NextLine.{Turn}
use Rattle.carry_passes.proofs.Steps as at
use Rattle.carry_passes.proofs.Steps.{turn-read, goes, left-kept, left-skipped, records-kept, records-skipped}
use Rattle.carry_passes.specs.Steps.{places_at, out_at, table_at}

-- ---- by whether the line is kept

module _ (n : ℕ) (j : Kind) (l : Line) where
  pub places-kept : (c : PerKind) → n ≡ 0 → places_at n j l c ≡ plus j (length (line_text l)) c
  unfolding places_at
  places-kept c z = rw z refl

  pub places-skipped : (c : PerKind) → (n ≡ 0 → ⊥) → places_at n j l c ≡ c
  unfolding places_at
  places-skipped c h = go n h
    where
      go : (n : ℕ) → (n ≡ 0 → ⊥) → places_at n j l c ≡ c
      go zero h = absurd (h refl)
      go (suc n) h = refl

  pub out-kept : (c : PerKind) (out : List ℕ) → n ≡ 0 → out_at n j l c out ≡ over out (get j c) (line_text l)
  unfolding out_at
  out-kept c out z = rw z refl

  pub out-skipped : (c : PerKind) (out : List ℕ) → (n ≡ 0 → ⊥) → out_at n j l c out ≡ out
  unfolding out_at
  out-skipped c out h = go n h
    where
      go : (n : ℕ) → (n ≡ 0 → ⊥) → out_at n j l c out ≡ out
      go zero h = absurd (h refl)
      go (suc n) h = refl

module _ (n row number : ℕ) (table : List ℕ) where
  pub table_kept : n ≡ 0 → table_at n row number table ≡ table
  unfolding table_at
  table_kept z = rw z refl

  pub table-skipped : (n ≡ 0 → ⊥) → table_at n row number table ≡ over table (row * 2) (number ∷ n ∷ [])
  unfolding table_at
  table-skipped h = go n h
    where
      go : (n : ℕ) → (n ≡ 0 → ⊥) → table_at n row number table ≡ over table (row * 2) (number ∷ n ∷ [])
      go zero h = absurd (h refl)
      go (suc n) h = refl

-- ---- a step

read-unskipped : (k : ℕ) (l : Line) (ls : List Line) → is_read l ≡ true → skips k (l ∷ ls) ≡ skips (k + 1) ls
unfolding skips is_read
read-unskipped k (refused_line n) ls h = absurd (never cc)
read-unskipped k (read r) ls h = refl

one_kept : (l : Line) → is_read l ≡ true → length (kept_of (l ∷ [])) ≡ 1
unfolding kept_of is_read
one_kept (refused_line n) h = absurd (never cc)
one_kept (read r) h = refl

-- how many rows a line has
unfoldable pub skipped : ℕ → ℕ
skipped zero = 0
skipped (suc n) = 1

module _ (strict : Bool) (t : List ℕ) (from : ℕ) (c : Cursor) (end : ℕ) where
  abbrev line_at : Line
  line_at = at.line_at strict t from c end

  abbrev kind_at : Kind
  kind_at = at.kind_at strict t from c end

  abbrev left : List Line
  left = at.left strict t from c end

  abbrev rest : List Line
  rest = at.rest strict t from c end

  -- its record is written at the place of its kind, or nothing is
  pub out-more : (n : ℕ) → Turn strict t from c end n → (out : List ℕ) (m : ℕ) (p : PerKind) → m ≤ length out → Apart (parts p (kept_of left)) m
      → Apart (parts (places_at n kind_at line_at p) (kept_of rest)) m
      × (with_parts (out_at n kind_at line_at p out) (parts (places_at n kind_at line_at p) (kept_of rest)) ≡ with_parts out (parts p (kept_of left)))
  unfolding places_at out_at
  out-more zero u out m p h a =
      let e = records-kept strict t from c end 0 u refl in
      let s = split-turn kind_at out m p line_at (kept_of rest) (goes strict t from c end 0 u refl) h (subst (λ rs. Apart (parts p rs) m) e a) in
      (s.apart, sym (ap (λ rs. with_parts out (parts p rs)) e ∙ s.same))
  out-more (suc n) u out m p h a =
      let e = records-skipped strict t from c end (suc n) u (omega arith) in
      (subst (λ rs. Apart (parts p rs) m) e a, ap (λ rs. with_parts out (parts p rs)) (sym e))

  pub out-fits : (n : ℕ) → Turn strict t from c end n → n ≡ 0 → (out : List ℕ) (m : ℕ) (p : PerKind) → m ≤ length out → Apart (parts p (kept_of left)) m
      → get kind_at p + length (line_text line_at) ≤ m
  out-fits n u z out m p h a = (split-turn kind_at out m p line_at (kept_of rest) (goes strict t from c end n u z) h (subst (λ rs. Apart (parts p rs) m) (records-kept strict t from c end n u z) a)).room

  -- its row is written, or none is
  rows-kept : (n : ℕ) → Turn strict t from c end n → n ≡ 0 → (k : ℕ) → rows (skips k left) ≡ rows (skips (k + 1) rest)
  rows-kept n u z k = ap (λ ls. rows (skips k ls)) (left-kept strict t from c end n u z) ∙ ap rows (read-unskipped k line_at rest (turn-read strict t from c end n u z))

  rows-skipped : (n : ℕ) → Turn strict t from c end n → 0 < n → (k : ℕ) → rows (skips k left) ≡ k ∷ n ∷ rows (skips (k + 1) rest)
  unfolding rows skips
  rows-skipped n u z k = ap (λ ls. rows (skips k ls)) (left-skipped strict t from c end n u z)

  pub row_fits : (n : ℕ) → Turn strict t from c end n → 0 < n → (k row : ℕ) (table : List ℕ) → row * 2 + length (rows (skips k left)) ≤ length table → row * 2 + 2 ≤ length table
  row_fits n u z k row table h = omega (arith, h, ap length (rows-skipped n u z k))

  -- the rows to come are after it
  pub table_more : (n : ℕ) → Turn strict t from c end n → (k row : ℕ) (table : List ℕ) → row * 2 + length (rows (skips k left)) ≤ length table
      → (row + skipped n) * 2 + length (rows (skips (k + 1) rest)) ≤ length table
  unfolding skipped
  table_more zero u k row table h = omega (arith, h, ap length (rows-kept 0 u refl k))
  table_more (suc n) u k row table h = omega (arith, h, ap length (rows-skipped (suc n) u (omega arith) k))

  pub table_same : (n : ℕ) → Turn strict t from c end n → (k row : ℕ) (table : List ℕ) → row * 2 + length (rows (skips k left)) ≤ length table
      → over (table_at n row k table) ((row + skipped n) * 2) (rows (skips (k + 1) rest)) ≡ over table (row * 2) (rows (skips k left))
  unfolding table_at skipped
  table_same zero u k row table h =
      ap (λ r. over table r (rows (skips (k + 1) rest))) (let z : (row + 0) * 2 ≡ row * 2 = omega arith in z) ∙ ap (over table (row * 2)) (sym (rows-kept 0 u refl k))
  table_same (suc n) u k row table h =
      let e = rows-skipped (suc n) u (omega arith) k in
      ap (λ r. over (over table (row * 2) (k ∷ suc n ∷ [])) r (rows (skips (k + 1) rest))) (let z : (row + 1) * 2 ≡ row * 2 + 2 = omega arith in z)
      ∙ over-over table (row * 2) (k ∷ suc n ∷ []) (rows (skips (k + 1) rest)) (omega (arith, h, ap length e))
      ∙ ap (over table (row * 2)) (sym e)

  -- how many are kept of it
  pub kept-one : (n : ℕ) → (u : Turn strict t from c end n) → length (kept_of (u.judged ∷ [])) + skipped n ≡ 1
  unfolding skipped kept_of
  kept-one zero u = ap (λ k. k + 0) (one_kept u.judged (u.kept refl).1)
  kept-one (suc n) u = ap (λ l. length (kept_of (l ∷ [])) + 1) (u.skipped (omega arith))
