-- Whether bytes start with a byte, with a number in bytes, and with one run and another after it.
use Prim.Native.Nat.{ℕ, zero, suc, ◌+◌, ◌*◌, ◌/◌, ◌%◌, ◌^◌, ◌≤◌, ◌<◌}
use mathlib.Core.Path.{◌≡◌, refl, sym, ap, ◌∙◌}
use mathlib.Core.Bool.{Bool, true, false, ◌&&◌}
use mathlib.Core.List.{List, [], ◌∷◌, ◌++◌}
use native.Mathlib.Omega.{arith}
use native.Mathlib.Numerals.{add-one}
use native.Mathlib.Nat.{pow-zero, pow-suc}
use lib.ListN.{length, take, drop, get_or, length-drop}
use lib.Seq.{drop-cons, drop-drop, get_or-drop}
use lib.Dec.{eqb}
use borrow.Author.Tests.{eqb-true, eqb-false, eq-eqb, ne_eqb}
use Rattle.format.specs.Bytes.{starts}
use Rattle.format.specs.Catalogue.{little}
use Rattle.format.specs.Little.{of_little}
use Rattle.lists.proofs.Bools.{never, and_right, split}

and_assoc : (a b c : Bool) → a && (b && c) ≡ (a && b) && c
and_assoc true b c = refl
and_assoc false b c = refl

pub starts-append : (xs ys c : List ℕ) → starts (xs ++ ys) c ≡ (starts xs c && starts ys (drop (length xs) c))
unfolding starts
starts-append [] ys c = refl
starts-append (x ∷ xs) ys [] = refl
starts-append (x ∷ xs) ys (b ∷ c) = ap (λ t. eqb x b && t) (starts-append xs ys c) ∙ and_assoc (eqb x b) (starts xs c) (starts ys (drop (length xs) c))

pub starts-within : (xs c : List ℕ) → starts xs c ≡ true → length xs ≤ length c
unfolding starts
starts-within [] c h = omega arith
starts-within (x ∷ xs) [] h = absurd (never (cc))
starts-within (x ∷ xs) (b ∷ c) h = omega (arith, starts-within xs c (and_right (eqb x b) (starts xs c) h))

-- ---- a number in bytes

-- by its lowest byte and the others
lowest : (b q v : ℕ) → b < 256 → eqb (v % 256) b && eqb q (v / 256) ≡ eqb (b + 256 * q) v
lowest b q v l =
    split (eqb (v % 256) b)
    (λ t. split (eqb q (v / 256))
    (λ u. rw (t, u) (sym (eq-eqb (b + 256 * q) v (omega (arith, eqb-true (v % 256) b t, eqb-true q (v / 256) u)))))
    (λ u. rw (t, u) (sym (ne_eqb (b + 256 * q) v (λ e. eqb-false q (v / 256) u (omega arith))))))
    (λ t. rw t (sym (ne_eqb (b + 256 * q) v (λ e. eqb-false (v % 256) b t (omega arith)))))

starts-little : (n v : ℕ) (s : List ℕ) → v < 256 ^ n → n ≤ length s → ((i : ℕ) → get_or s i 0 < 256) → starts (little n v) s ≡ eqb (of_little (take n s)) v
unfolding starts little of_little
starts-little zero v s h l k = sym (eq-eqb 0 v (omega (arith, pow-zero 256)))
starts-little (suc n) v [] h l k = absurd (omega arith)
starts-little (suc n) v (b ∷ s) h l k =
    ap (λ t. eqb (v % 256) b && t) (starts-little n (v / 256) s (omega (arith, pow-suc 256 n)) (omega arith) (λ i. k (suc i)))
    ∙ lowest b (of_little (take n s)) v (k 0)

-- ---- at a place

module _ (c : List ℕ) (at : ℕ) where
  pub starts_none : starts [] (drop at c) ≡ true
  unfolding starts
  starts_none = refl

  pub starts-byte : (x : ℕ) (xs : List ℕ) → at < length c → starts (x ∷ xs) (drop at c) ≡ (eqb x (get_or c at 0) && starts xs (drop (at + 1) c))
  unfolding starts
  starts-byte x xs l = rw (add-one at, drop-cons c at 0) refl

  pub starts-number : (n v : ℕ) → v < 256 ^ n → at + n ≤ length c → ((i : ℕ) → get_or c i 0 < 256) → starts (little n v) (drop at c) ≡ eqb (of_little (take n (drop at c))) v
  starts-number n v h l k = starts-little n v (drop at c) h (omega (arith, length-drop at c)) (λ i. omega (arith, get_or-drop at c i 0, k (at + i)))

  pub starts-then : (xs ys : List ℕ) (n : ℕ) → length xs ≡ n → starts (xs ++ ys) (drop at c) ≡ (starts xs (drop at c) && starts ys (drop (at + n) c))
  starts-then xs ys n e = starts-append xs ys (drop at c) ∙ ap (λ l. starts xs (drop at c) && starts ys l) (drop-drop (length xs) at c ∙ ap (λ m. drop (at + m) c) e)

  -- too little is left
  pub starts-short : (xs : List ℕ) → at ≤ length c → length c < at + length xs → starts xs (drop at c) ≡ false
  starts-short xs l h = split (starts xs (drop at c)) (λ t. absurd (omega (arith, starts-within xs (drop at c) t, length-drop at c))) (λ t. t)
