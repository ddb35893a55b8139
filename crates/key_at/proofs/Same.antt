-- A key, and the key at a place of a text.
use Prim.Native.Nat.{ℕ, suc, ◌+◌, ◌≤◌, ◌<◌}
use mathlib.Core.Path.{◌≡◌, refl, sym, ap, ◌∙◌}
use mathlib.Core.Bool.{Bool, true, false, ◌&&◌, cond, false≢true}
use mathlib.Core.List.{List, [], ◌∷◌}
use native.Mathlib.Omega.{arith}
use lib.ListN.{length, drop, get_or, length-drop, drop_of_length-le}
use lib.Seq.{drop-drop}
use lib.Dec.{eqb, ltb}
use borrow.Author.Tests.{lt-ltb, le-ltb, ltb-true, ltb-false, ne_eqb, eq-eqb}
use Rattle.format.specs.Bytes.{same, none?}
use Rattle.key_at.specs.Word.{word}
use Rattle.key_at.proofs.Word.{ends_at, same_ended, same-on}

and_right : (a b : Bool) → (a && b) ≡ true → b ≡ true
and_right true b e = e
and_right false b e = absurd (false≢true e)

-- ---- where they are equal

-- the text has so many bytes, and after them no key goes on
equal-ends : (x t : List ℕ) → same x (word t) ≡ true → (length x ≤ length t) × (none? (word (drop (length x) t)) ≡ true)
unfolding same word none?
equal-ends [] [] e = (omega arith, refl)
equal-ends [] (b ∷ t) e = go (ltb b 32) e
  where
    go : (w : Bool) → same [] (cond w [] (b ∷ word t)) ≡ true → (0 ≤ suc (length t)) × (none? (cond w [] (b ∷ word t)) ≡ true)
    go true e = (omega arith, refl)
    go false e = absurd (false≢true e)
equal-ends (a ∷ x) [] e = absurd (false≢true e)
equal-ends (a ∷ x) (b ∷ t) e = go (ltb b 32) e (equal-ends x t)
  where
    go : (w : Bool) → same (a ∷ x) (cond w [] (b ∷ word t)) ≡ true → (same x (word t) ≡ true → (length x ≤ length t) × (none? (word (drop (length x) t)) ≡ true))
        → (suc (length x) ≤ suc (length t)) × (none? (word (drop (length x) t)) ≡ true)
    go true e ih = absurd (false≢true e)
    go false e ih = let r = ih (and_right (eqb a b) (same x (word t)) e) in (omega (arith, r.0), r.1)

is_false : (b : Bool) → (b ≡ true → ⊥) → false ≡ b
is_false true h = absurd (h refl)
is_false false h = refl

-- a text that is too short
pub short-same : (x t : List ℕ) (at : ℕ) → length t < at + length x → eqb (length x) 0 ≡ same x (word (drop at t))
unfolding same word
short-same [] t at h = let l : length t ≤ at = omega (arith, h) in sym (ap (λ s. same [] (word s)) (drop_of_length-le t l))
short-same (a ∷ x) t at h =
    ne_eqb (suc (length x)) 0 (λ z. omega (arith, z))
    ∙ is_false (same (a ∷ x) (word (drop at t))) (λ e. omega (arith, h, (equal-ends (a ∷ x) (drop at t) e).0, length-drop at t))

-- a key that goes on
pub longer-differs : (x t : List ℕ) (at : ℕ) → none? (word (drop (at + length x) t)) ≡ false → false ≡ same x (word (drop at t))
longer-differs x t at h = is_false _ (λ e. false≢true (sym h ∙ ap (λ s. none? (word s)) (sym (drop-drop (length x) at t)) ∙ (equal-ends x (drop at t) e).1))

-- ---- byte by byte: the byte `i` of `x`, and the byte `at` of the text

module _ (x t : List ℕ) (i at : ℕ) (l : i < length x) (m : at < length t) where
  pub low-differs : get_or t at 0 < 32 → same (drop i x) (word (drop at t)) ≡ false
  low-differs h = same_ended (drop i x) (word (drop at t)) (omega (arith, l, length-drop i x)) (ends_at t at m ∙ lt-ltb (get_or t at 0) 32 h)

  module _ (h : 32 ≤ get_or t at 0) where
    opened : same (drop i x) (word (drop at t)) ≡ (eqb (get_or x i 0) (get_or t at 0) && same (drop (i + 1) x) (word (drop (at + 1) t)))
    opened = same-on x t i at l (ends_at t at m ∙ le-ltb (get_or t at 0) 32 h)

    other : (get_or t at 0 ≡ get_or x i 0 → ⊥) → same (drop i x) (word (drop at t)) ≡ false
    other q = opened ∙ ap (λ b. b && same (drop (i + 1) x) (word (drop (at + 1) t))) (ne_eqb (get_or x i 0) (get_or t at 0) (λ e. q (sym e)))

    pub goes_on : get_or t at 0 ≡ get_or x i 0 → same (drop i x) (word (drop at t)) ≡ same (drop (i + 1) x) (word (drop (at + 1) t))
    goes_on q = opened ∙ ap (λ b. b && same (drop (i + 1) x) (word (drop (at + 1) t))) (eq-eqb (get_or x i 0) (get_or t at 0) (sym q))

  pub byte-differs : (get_or t at 0 ≡ get_or x i 0 → ⊥) → same (drop i x) (word (drop at t)) ≡ false
  byte-differs q = go (ltb (get_or t at 0) 32) refl
    where
      go : (b : Bool) → ltb (get_or t at 0) 32 ≡ b → same (drop i x) (word (drop at t)) ≡ false
      go true e = low-differs (ltb-true (get_or t at 0) 32 e)
      go false e = other (ltb-false (get_or t at 0) 32 e) q

  -- a byte of both, and what is after it
  pub byte-decides : same (drop i x) (word (drop at t)) ≡ (cond (ltb (get_or t at 0) 32) false (eqb (get_or x i 0) (get_or t at 0)) && same (drop (i + 1) x) (word (drop (at + 1) t)))
  byte-decides = go (ltb (get_or t at 0) 32) refl
    where
      go : (b : Bool) → ltb (get_or t at 0) 32 ≡ b → same (drop i x) (word (drop at t)) ≡ (cond b false (eqb (get_or x i 0) (get_or t at 0)) && same (drop (i + 1) x) (word (drop (at + 1) t)))
      go true e = low-differs (ltb-true (get_or t at 0) 32 e)
      go false e = opened (ltb-false (get_or t at 0) 32 e)

-- ---- bytes one after another: `all` says whether they go on so far, and `b` whether one more does

pub one-differs : (all b r : Bool) → b ≡ false → (all && (b && r)) ≡ false
one-differs all b r e = ap (λ b. all && (b && r)) e ∙ none all
  where
    none : (a : Bool) → (a && false) ≡ false
    none true = refl
    none false = refl

pub one_more : (all b r : Bool) → b ≡ true → (all && (b && r)) ≡ (all && r)
one_more all b r e = ap (λ b. all && (b && r)) e
