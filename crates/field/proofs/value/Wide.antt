-- The laws of taking a value in UTF-8: bytes that may be in any value are characters, and after them is what is left to judge.
use Prim.Native.Nat.{ℕ, zero, suc, ◌+◌, ◌≤◌}
use mathlib.Core.Path.{◌≡◌, refl, ap, ◌∙◌}
use mathlib.Core.Bool.{Bool, true, false, cond}
use mathlib.Core.List.{List, [], ◌∷◌}
use native.Mathlib.Omega.{arith}
use lib.ListN.{length, drop}
use lib.Dec.{eqb}
use borrow.Author.Tests.{ne_eqb, eqb-true}
use Rattle.format.specs.Bytes.{printable}
use Rattle.format.specs.Fields.{is_wide_value}
use Rattle.format.specs.Utf8.{within, forms, due, characters}
use Rattle.byte_slices.specs.Upto.{upto, before}
use Rattle.byte_slices.specs.Run.{run}
use Rattle.byte_slices.proofs.Run.{upto-onward}
use Rattle.field.specs.Taken.{taken_of}
use Rattle.byte_slices.proofs.Before.{before-pass, before-length}
use Rattle.field.proofs.value.Value.{tab-printable}

-- nothing is no value, and its length is 0
taken-whole : (v : List ℕ) → taken_of is_wide_value v ≡ cond (characters [] v) (length v) 0
unfolding taken_of is_wide_value characters
taken-whole [] = refl
taken-whole (b ∷ v) = refl

-- space to tilde are characters of one byte
character : (b : ℕ) (s : List ℕ) → printable b ≡ true → characters [] (b ∷ s) ≡ characters [] s
unfolding characters due forms within printable
character b s e = rw (e, characters) refl

characters-run : (k : ℕ) (s : List ℕ) → k ≤ run printable s → characters [] (before 9 s) ≡ characters [] (before 9 (drop k s))
unfolding run
characters-run zero s h = refl
characters-run (suc k) [] h = absurd (omega arith)
characters-run (suc k) (b ∷ s) h = go (printable b) refl h (characters-run k s)
  where
    go : (t : Bool) → printable b ≡ t → suc k ≤ cond t (suc (run printable s)) 0
        → (k ≤ run printable s → characters [] (before 9 s) ≡ characters [] (before 9 (drop k s)))
        → characters [] (before 9 (b ∷ s)) ≡ characters [] (before 9 (drop k s))
    go false e h ih = absurd (omega arith)
    go true e h ih =
        ap (characters []) (before-pass 9 b s (ne_eqb b 9 (tab-printable b e))) ∙ character b (before 9 s) e ∙ ih (omega arith)

-- there is no tab among them
run-upto : (s : List ℕ) → run printable s ≤ upto 9 s
unfolding run upto
run-upto [] = omega arith
run-upto (b ∷ s) = go (printable b) refl (eqb b 9) refl (run-upto s)
  where
    go : (t : Bool) → printable b ≡ t → (u : Bool) → eqb b 9 ≡ u → run printable s ≤ upto 9 s → cond t (suc (run printable s)) 0 ≤ cond u 0 (suc (upto 9 s))
    go true e true f ih = absurd (tab-printable b e (eqb-true b 9 f))
    go true e false f ih = omega arith
    go false e u f ih = omega arith

-- where the first `i` bytes may all be in any value
pub wide-left : (s : List ℕ) (i : ℕ) → i ≤ run printable s
    → taken_of is_wide_value (before 9 s) ≡ cond (characters [] (before 9 (drop i s))) (i + upto 9 (drop i s)) 0
wide-left s i h =
    taken-whole (before 9 s)
    ∙ ap (λ t. cond t (length (before 9 s)) 0) (characters-run i s h)
    ∙ ap (λ n. cond (characters [] (before 9 (drop i s))) n 0) (before-length 9 s ∙ upto-onward 9 s i (omega (arith, run-upto s)))
