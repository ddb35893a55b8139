-- The first SQ whose name can't be written, one line further.
use Prim.Native.Nat.{ℕ, ◌+◌, ◌≤◌}
use mathlib.Core.Path.{◌≡◌, refl, ap, ◌∙◌}
use mathlib.Core.Bool.{Bool, true, false, cond}
use mathlib.Core.List.{List}
use mathlib.Core.Option.{none, some}
use lib.ListN.{length}
use Rattle.format.specs.Records.{Record, Line, refused_line, read, line}
use Rattle.format.specs.Tidy.{unwritable}
use Rattle.lists.proofs.Bools.{never}
use Rattle.accepted.proofs.Ahead.{lent}
use Rattle.tidy_line.specs.Line.{line_text, line_writable, line_size}
use Rattle.std.specs.Prelude.{Some, None}
use Rattle.format.specs.declared.Kind.{Kind}
use Rattle.tidy_text.specs.Accepted.{with_record, records_from}
use Rattle.tidy_sizes.specs.Numbers.{plus}
use Rattle.tidy_text.specs.Sizes.{grown_by}
use Rattle.tidy_sizes.specs.declared.PerKind.{PerKind}
use Rattle.tidy_text.proofs.Lines.{Turn, ended}
use Rattle.byte_slices.specs.declared.Cut.{Cut}
use Rattle.accepted.specs.Read.{is_read}

-- a choice once its flag is known
pub cond-is : {A : Type 0} (b d : Bool) (x y : A) → b ≡ d → cond b x y ≡ cond d x y
cond-is b d x y e = ap (λ b. cond b x y) e

unwritable-onto : (l : ℕ) (p : Line) (rs : List Record) → is_read p ≡ true → unwritable l (with_record p rs) ≡ cond (line_writable p) (unwritable (l + 1) rs) (some l)
unfolding unwritable with_record is_read line_writable
unwritable-onto l (refused_line n) rs h = absurd (never (cc))
unwritable-onto l (read r) rs h = refl

pub unwritable-turn : (strict : Bool) (t : List ℕ) (at : ℕ) (c : Cut) → Turn strict t at c → (l : ℕ)
    → unwritable l (records_from strict t at)
    ≡ cond (line_writable (line strict (record { at = at; bytes = lent t at c.len }))) (unwritable (l + 1) (records_from strict t (at + c.next))) (some l)
unwritable-turn strict t at c u l =
    ap (unwritable l) u.records
    ∙ unwritable-onto l (line strict (record { at = at; bytes = lent t at c.len })) (records_from strict t (at + c.next)) u.read

-- after the last line
pub unwritable-ended : (strict : Bool) (t : List ℕ) (at : ℕ) → length t ≤ at → (l : ℕ) → unwritable l (records_from strict t at) ≡ none
unfolding unwritable
unwritable-ended strict t at h l = ap (unwritable l) (ended strict t at h)

-- ---- by a line's size

size-bad : (p : Line) → line_size p ≡ None → line_writable p ≡ false
unfolding line_size
size-bad p e = go (line_writable p) refl e
  where
    go : (b : Bool) → line_writable p ≡ b → cond b (Some (length (line_text p))) None ≡ None → line_writable p ≡ false
    go true q e = absurd (never (cc))
    go false q e = q

pub size_is : (p : Line) (k : ℕ) → line_size p ≡ Some k → (line_writable p ≡ true) × (length (line_text p) ≡ k)
unfolding line_size
size_is p k e = go (line_writable p) refl e
  where
    go : (b : Bool) → line_writable p ≡ b → cond b (Some (length (line_text p))) None ≡ Some k → (line_writable p ≡ true) × (length (line_text p) ≡ k)
    go true q e = (q, cc)
    go false q e = absurd (never (cc))

-- ---- by the sizes with it

module _ (j : Kind) (p : Line) (s : PerKind) where
  pub grown-bad : line_size p ≡ None → grown_by j p s ≡ None
  unfolding grown_by
  grown-bad e = cond-is (line_writable p) false _ _ (size-bad p e)

  pub grown-is : (n : ℕ) → line_size p ≡ Some n → grown_by j p s ≡ Some (plus j n s)
  unfolding grown_by
  grown-is n e = cond-is (line_writable p) true _ _ (size_is p n e).0 ∙ ap (λ n. Some (plus j n s)) (size_is p n e).1

  pub grew-bad : grown_by j p s ≡ None → line_writable p ≡ false
  unfolding grown_by
  grew-bad e = go (line_writable p) refl e
    where
      go : (b : Bool) → line_writable p ≡ b → cond b (Some (plus j (length (line_text p)) s)) None ≡ None → line_writable p ≡ false
      go true q e = absurd (never (cc))
      go false q e = q

  pub grew-is : (t : PerKind) → grown_by j p s ≡ Some t → (line_writable p ≡ true) × (plus j (length (line_text p)) s ≡ t)
  unfolding grown_by
  grew-is t e = go (line_writable p) refl e
    where
      go : (b : Bool) → line_writable p ≡ b → cond b (Some (plus j (length (line_text p)) s)) None ≡ Some t
          → (line_writable p ≡ true) × (plus j (length (line_text p)) s ≡ t)
      go true q e = (q, cc)
      go false q e = absurd (never (cc))
