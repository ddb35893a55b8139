-- The laws of taking a value: what is left to do at a place, byte by byte, and over bytes that may all be in a value.
use Prim.Native.Nat.{ℕ, zero, suc, ◌+◌, ◌≤◌, ◌<◌}
use mathlib.Core.Path.{◌≡◌, refl, sym, ap, ◌∙◌}
use mathlib.Core.Bool.{Bool, true, false, cond, false≢true}
use mathlib.Core.List.{List, [], ◌∷◌}
use native.Mathlib.Omega.{arith}
use native.Mathlib.Numerals.{add-one}
use native.Mathlib.Nat.{zero-add, add-zero}
use lib.ListN.{length, get_or, drop, drop_of_length-le}
use lib.Seq.{drop-cons}
use borrow.Author.Tests.{eq-eqb, ne_eqb}
use Rattle.format.specs.Bytes.{printable, all}
use Rattle.format.specs.Fields.{is_value}
use Rattle.byte_slices.specs.Upto.{before}
use Rattle.byte_slices.specs.Run.{run}
use Rattle.field.specs.Taken.{taken_of}
use Rattle.byte_slices.proofs.Before.{before-stop, before-pass}

-- `n` bytes were taken, and `v` is still to be judged
unfoldable pub taken_from : ℕ → List ℕ → ℕ
unfolding all
taken_from n v = cond (all printable v) (n + length v) 0

pub taken_start : (v : List ℕ) → taken_of is_value v ≡ taken_from 0 v
unfolding taken_of taken_from is_value
taken_start [] = refl
taken_start (b ∷ v) = rw (zero-add (suc (length v)))

pub taken-end : (n : ℕ) → taken_from n [] ≡ n
unfolding taken_from
taken-end n = add-zero n

pub taken-wrong : (n b : ℕ) (v : List ℕ) → printable b ≡ false → taken_from n (b ∷ v) ≡ 0
unfolding taken_from
taken-wrong n b v e = rw e

pub taken_next : (n b : ℕ) (v : List ℕ) → printable b ≡ true → taken_from n (b ∷ v) ≡ taken_from (n + 1) v
unfolding taken_from
taken_next n b v e = let k : n + suc (length v) ≡ n + 1 + length v = omega arith in rw (e, k)

-- a tab can't be printed
pub tab-printable : (b : ℕ) → printable b ≡ true → b ≡ 9 → ⊥
unfolding printable
tab-printable b h e = false≢true (rw e at h)

-- bytes that may all be in a value
taken-run : (k n : ℕ) (s : List ℕ) → k ≤ run printable s → taken_from n (before 9 s) ≡ taken_from (n + k) (before 9 (drop k s))
unfolding run
taken-run zero n s h = ap (λ m. taken_from m (before 9 s)) (sym (add-zero n))
taken-run (suc k) n [] h = absurd (omega arith)
taken-run (suc k) n (b ∷ s) h = go (printable b) refl h (taken-run k (n + 1) s)
  where
    go : (t : Bool) → printable b ≡ t → suc k ≤ cond t (suc (run printable s)) 0
        → (k ≤ run printable s → taken_from (n + 1) (before 9 s) ≡ taken_from (n + 1 + k) (before 9 (drop k s)))
        → taken_from n (before 9 (b ∷ s)) ≡ taken_from (n + suc k) (before 9 (drop k s))
    go false e h ih = absurd (omega arith)
    go true e h ih =
        ap (taken_from n) (before-pass 9 b s (ne_eqb b 9 (tab-printable b e)))
        ∙ taken_next n b (before 9 s) e
        ∙ ih (omega arith)
        ∙ ap (λ m. taken_from m (before 9 (drop k s))) (let q : n + 1 + k ≡ n + suc k = omega arith in q)

-- ---- at the place `i` of `s`

unfoldable pub left : ℕ → List ℕ → ℕ
left i s = taken_from i (before 9 (drop i s))

module _ (s : List ℕ) (i : ℕ) where
  pub at-end : length s ≤ i → left i s ≡ i
  unfolding left before
  at-end h = rw drop_of_length-le (taken-end i)

  module _ (h : i < length s) where
    pub at-tab : get_or s i 0 ≡ 9 → left i s ≡ i
    unfolding left
    at-tab e = rw (drop-cons s i 0 h, before-stop 9 _ _ (eq-eqb _ _ e)) (taken-end i)

    pub at-wrong : (get_or s i 0 ≡ 9 → ⊥) → printable (get_or s i 0) ≡ false → left i s ≡ 0
    unfolding left
    at-wrong n e = rw (drop-cons s i 0 h, before-pass 9 _ _ (ne_eqb _ _ n)) (taken-wrong i _ _ e)

    pub at_next : printable (get_or s i 0) ≡ true → left i s ≡ left (i + 1) s
    unfolding left
    at_next e = rw (drop-cons s i 0 h, before-pass 9 _ _ (ne_eqb _ _ (tab-printable _ e)), ← add-one i) (taken_next i _ _ e)

-- where bytes that may all be in a value were passed
pub left-run : (s : List ℕ) (i : ℕ) → i ≤ run printable s → taken_of is_value (before 9 s) ≡ left i s
unfolding left
left-run s i h = taken_start (before 9 s) ∙ taken-run i 0 s h ∙ ap (λ m. taken_from m (before 9 (drop i s))) (zero-add i)
