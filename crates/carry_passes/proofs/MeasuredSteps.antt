-- What a step of measuring adds: the names and the sizes, one line further.
use Prim.Native.Nat.{ℕ, zero, suc, ◌+◌, ◌≤◌}
use mathlib.Core.Path.{◌≡◌, refl, sym, ap, ◌∙◌}
use mathlib.Core.Bool.{Bool, true, false, cond}
use mathlib.Core.List.{List, ◌∷◌}
use mathlib.Core.Option.{some}
use native.Mathlib.Omega.{arith}
use lib.ListN.{length}
use Rattle.format.specs.Records.{Record, Line, refused_line, read}
use Rattle.format.specs.Tidy.{tidy}
use Rattle.format.specs.declared.Kind.{Kind}
use Rattle.lists.proofs.Bools.{never}
use Rattle.tidy_line.specs.Line.{line_text, line_writable}
use Rattle.tidy_sizes.specs.Numbers.{get}
use Rattle.tidy_sizes.specs.declared.PerKind.{PerKind}
use Rattle.tidy_text.specs.Sizes.{grown_by}
use Rattle.std.specs.Prelude.{Some, None}
use Rattle.tidy_text.proofs.Total.{size}
use Rattle.tidy_text.proofs.Sizes.{size-turn, own-size, size-le}
use Rattle.tidy_text.proofs.Names.{cond-is, grew-bad, grew-is}
use Rattle.format.specs.Carrying.{kept_of, unwritable_line}
use Rattle.carry_lines.specs.declared.Cursor.{Cursor}
use Rattle.carry_passes.specs.NextLine.{Turn}
use Rattle.carry_passes.proofs.Steps as at
use Rattle.carry_passes.proofs.Steps.{goes, left-kept, left-skipped, records-kept, records-skipped}
use Rattle.carry_passes.specs.Measured.{grown_at}

-- ---- by whether the line is kept

module _ (n : ℕ) (j : Kind) (l : Line) where
  pub grown-kept : (s : PerKind) → n ≡ 0 → grown_at n j l s ≡ grown_by j l s
  unfolding grown_at
  grown-kept s z = rw z refl

  pub grown-skipped : (s : PerKind) → (n ≡ 0 → ⊥) → grown_at n j l s ≡ Some s
  unfolding grown_at
  grown-skipped s h = go n h
    where
      go : (n : ℕ) → (n ≡ 0 → ⊥) → grown_at n j l s ≡ Some s
      go zero h = absurd (h refl)
      go (suc n) h = refl

-- ---- a step

line-names : (k : ℕ) (l : Line) (ls : List Line) → unwritable_line k (l ∷ ls) ≡ cond (line_writable l) (unwritable_line (k + 1) ls) (some k)
unfolding unwritable_line line_writable
line-names k (refused_line n) ls = refl
line-names k (read r) ls = refl

module _ (strict : Bool) (t : List ℕ) (from : ℕ) (c : Cursor) (end : ℕ) where
  abbrev line_at : Line
  line_at = at.line_at strict t from c end

  abbrev kind_at : Kind
  kind_at = at.kind_at strict t from c end

  abbrev left : List Line
  left = at.left strict t from c end

  abbrev rest : List Line
  rest = at.rest strict t from c end

  -- its name can't be written
  pub names-bad : (n : ℕ) → Turn strict t from c end n → (s : PerKind) → grown_at n kind_at line_at s ≡ None → (k : ℕ) → unwritable_line k left ≡ some k
  unfolding grown_at
  names-bad zero u s e k =
      ap (unwritable_line k) (left-kept strict t from c end 0 u refl) ∙ line-names k line_at rest ∙ cond-is (line_writable line_at) false _ _ (grew-bad kind_at line_at s e)
  names-bad (suc n) u s e k = absurd (never cc)

  -- or it can
  pub names_more : (n : ℕ) → Turn strict t from c end n → (s s' : PerKind) → grown_at n kind_at line_at s ≡ Some s' → (k : ℕ) → unwritable_line k left ≡ unwritable_line (k + 1) rest
  unfolding grown_at unwritable_line
  names_more zero u s s' e k =
      ap (unwritable_line k) (left-kept strict t from c end 0 u refl) ∙ line-names k line_at rest ∙ cond-is (line_writable line_at) true _ _ (grew-is kind_at line_at s s' e).0
  names_more (suc n) u s s' e k = ap (unwritable_line k) (left-skipped strict t from c end (suc n) u (omega arith))

  pub sizes-more : (n : ℕ) → Turn strict t from c end n → (s s' : PerKind) → grown_at n kind_at line_at s ≡ Some s'
      → (k : Kind) → get k s' + size k (kept_of rest) ≡ get k s + size k (kept_of left)
  unfolding grown_at
  sizes-more zero u s s' e k =
      ap (λ s. get k s + size k (kept_of rest)) (sym (grew-is kind_at line_at s s' e).1)
      ∙ sym (size-turn kind_at k line_at (kept_of rest) s (goes strict t from c end 0 u refl k))
      ∙ ap (λ rs. get k s + size k rs) (sym (records-kept strict t from c end 0 u refl))
  sizes-more (suc n) u s s' e k =
      let z : s' ≡ s = cc in
      ap (λ s. get k s + size k (kept_of rest)) z ∙ ap (λ rs. get k s + size k rs) (sym (records-skipped strict t from c end (suc n) u (omega arith)))

  -- there is room for its size
  pub size_fits : (n : ℕ) → Turn strict t from c end n → n ≡ 0 → (s : PerKind) (rs : List Record)
      → get kind_at s + size kind_at (kept_of left) ≡ size kind_at rs → length (tidy rs) ≤ 16777217 → get kind_at s + length (line_text line_at) ≤ 18446744073709551615
  size_fits n u z s rs e h =
      omega (arith, e, h, ap (size kind_at) (records-kept strict t from c end n u z), own-size kind_at line_at (kept_of rest) (goes strict t from c end n u z kind_at), size-le kind_at rs)
