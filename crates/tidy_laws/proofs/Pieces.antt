-- A line of good fields is cut into these fields: what `scan` answers for the fields of a line that the tidy text has.
use Prim.Native.Nat.{ℕ, ◌+◌, ◌≤◌}
use mathlib.Core.Path.{◌≡◌, refl, ap, ◌∙◌}
use mathlib.Core.Bool.{true, false, not}
use mathlib.Core.List.{List, [], ◌∷◌, ◌++◌, map}
use native.Mathlib.Omega.{arith}
use lib.ListN.{length}
use lib.Dec.{eqb, leb}
use borrow.Author.Tests.{leb-true, ne_eqb}
use Rattle.format.specs.Bytes.{all, any}
use Rattle.format.specs.Lines.{onto, cut, placed}
use Rattle.format.specs.Fields.{Field, good, field, onward, scan}
use Rattle.format.specs.Records.{breaks}
use Rattle.format.specs.Tidy.{fields_text}
use Rattle.format.specs.declared.Kind.{Kind}
use Rattle.byte_slices.specs.Stands.{Each}
use Rattle.utf8.specs.Shown.{shown}
use Rattle.lists.proofs.Bools.{and_left, and_right, any_append}
use Rattle.tidy_laws.specs.Line.{piece_text, put-at, located}

-- ---- bytes

-- a byte from 32 on is not a tab, LF or CR
shown-no-tab : (b : ℕ) → shown b ≡ true → eqb b 9 ≡ false
unfolding shown
shown-no-tab b h = ne_eqb b 9 (λ e. let l : 32 ≤ b = leb-true 32 b (and_left (leb 32 b) (not (eqb b 127)) h) in omega arith)

shown-no-break : (b : ℕ) → shown b ≡ true → breaks b ≡ false
unfolding shown breaks
shown-no-break b h =
    let l : 32 ≤ b = leb-true 32 b (and_left (leb 32 b) (not (eqb b 127)) h) in
    rw (ne_eqb b 10 (λ e. omega arith), ne_eqb b 13 (λ e. omega arith)) refl

pub shown-unbroken : (s : List ℕ) → all shown s ≡ true → any breaks s ≡ false
unfolding all any
shown-unbroken [] h = refl
shown-unbroken (b ∷ s) h =
    rw (shown-no-break b (and_left (shown b) (all shown s) h), shown-unbroken s (and_right (shown b) (all shown s) h)) refl

-- ---- a cut line

-- a piece with no tab in it, and the tab after it
cut-piece : (p s : List ℕ) → all shown p ≡ true → cut 9 (p ++ (9 ∷ s)) ≡ p ∷ cut 9 s
unfolding all cut onto
cut-piece [] s h = refl
cut-piece (b ∷ p) s h =
    rw (shown-no-tab b (and_left (shown b) (all shown p) h), cut-piece p s (and_right (shown b) (all shown p) h)) refl

cut-end : (p : List ℕ) → all shown p ≡ true → cut 9 p ≡ p ∷ []
unfolding all cut onto
cut-end [] h = refl
cut-end (b ∷ p) h = rw (shown-no-tab b (and_left (shown b) (all shown p) h), cut-end p (and_right (shown b) (all shown p) h)) refl

-- a field that is read where it is in a line of kind `k`
pub record Fine (k : Kind) (f : Field) : Type 0 where
  pub bytes : all shown (piece_text f) ≡ true
  pub reads : (at : ℕ) → field k at (piece_text f) ≡ good (put-at (at + 3) f)

cut-fields : (k : Kind) (p : List ℕ) (fs : List Field) → all shown p ≡ true → Each (Fine k) fs → cut 9 (p ++ fields_text fs) ≡ p ∷ map piece_text fs
unfolding fields_text Each piece_text
cut-fields k p [] h e = rw (mathlib.Core.List.append-nil p) (cut-end p h)
cut-fields k p (f ∷ fs) h e = cut-piece p (piece_text f ++ fields_text fs) h ∙ ap (λ l. p ∷ l) (cut-fields k (piece_text f) fs e.0.bytes e.1)

scan-pieces : (k : Kind) (at : ℕ) (fs : List Field) → Each (Fine k) fs → scan k (placed at (map piece_text fs)) ≡ record { fields = located at fs; stop = 0 }
unfolding scan placed located Each onward
scan-pieces k at [] e = refl
scan-pieces k at (f ∷ fs) e =
    rw (e.0.reads at, scan-pieces k (at + length (piece_text f) + 1) fs e.1) refl

pub scan-fields : (k : Kind) (at : ℕ) (f : Field) (fs : List Field) → Each (Fine k) (f ∷ fs)
    → scan k (placed at (cut 9 (piece_text f ++ fields_text fs))) ≡ record { fields = located at (f ∷ fs); stop = 0 }
unfolding Each
scan-fields k at f fs e = ap (λ ps. scan k (placed at ps)) (cut-fields k (piece_text f) fs e.0.bytes e.1) ∙ scan-pieces k at (f ∷ fs) e

pub fields-unbroken : (k : Kind) (fs : List Field) → Each (Fine k) fs → any breaks (fields_text fs) ≡ false
unfolding any breaks fields_text Each piece_text
fields-unbroken k [] e = refl
fields-unbroken k (f ∷ fs) e =
    any_append breaks (piece_text f) (fields_text fs) ∙ rw (shown-unbroken (piece_text f) e.0.bytes, fields-unbroken k fs e.1) refl
