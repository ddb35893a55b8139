-- Whether all elements are one number: the elements from `i` on decide, or each of them is.
use Prim.Native.Nat.{ℕ, zero, suc, ◌+◌, ◌≤◌, ◌<◌}
use mathlib.Core.Path.{◌≡◌, refl, sym, ap, ◌∙◌}
use mathlib.Core.Bool.{Bool, true, false, ◌&&◌, false≢true}
use mathlib.Core.List.{List, [], ◌∷◌}
use native.Mathlib.Numerals.{add-one}
use native.Mathlib.Omega.{arith}
use lib.ListN.{length, get_or, drop, drop_of_length-le}
use lib.Seq.{drop-cons}
use lib.Dec.{eqb}
use borrow.Author.Tests.{eq-eqb, ne_eqb, eqb-true}
use Rattle.std.specs.Prelude.{IsTrue, EachIndex, slice_index, ◌↔◌}
use Rattle.format.specs.Bytes.{all}

module _ (n : ℕ) (s : List ℕ) (i : ℕ) where
  next : i < length s → all (eqb n) (drop i s) ≡ (eqb n (get_or s i 0) && all (eqb n) (drop (i + 1) s))
  unfolding all
  next h = rw (drop-cons s i 0 h, add-one i) refl

  pub spent : length s ≤ i → all (eqb n) (drop i s) ≡ true
  unfolding all
  spent h = rw (drop_of_length-le s h) refl

  pub stops : i < length s → (n ≡ get_or s i 0 → ⊥) → all (eqb n) (drop i s) ≡ false
  stops h e = next h ∙ ap (λ t. t && all (eqb n) (drop (i + 1) s)) (ne_eqb n (get_or s i 0) e)

  pub goes : i < length s → n ≡ get_or s i 0 → all (eqb n) (drop i s) ≡ all (eqb n) (drop (i + 1) s)
  goes h e = next h ∙ ap (λ t. t && all (eqb n) (drop (i + 1) s)) (eq-eqb n (get_or s i 0) e)

module _ (n : ℕ) where
  each-all : (s : List ℕ) → ((k : ℕ) → k < length s → get_or s k 0 ≡ n) → all (eqb n) s ≡ true
  unfolding all
  each-all [] h = refl
  each-all (b ∷ s) h = rw (eq-eqb n b (sym (h 0 (omega arith)))) (each-all s (λ k l. h (suc k) (omega arith)))

  all-each : (s : List ℕ) → all (eqb n) s ≡ true → (k : ℕ) → k < length s → get_or s k 0 ≡ n
  unfolding all
  all-each [] e k l = absurd (omega arith)
  all-each (b ∷ s) e k l = go (eqb n b) refl (all-each s) e k l
    where
      go : (t : Bool) → eqb n b ≡ t → (all (eqb n) s ≡ true → (k : ℕ) → k < length s → get_or s k 0 ≡ n) → (t && all (eqb n) s) ≡ true
          → (k : ℕ) → k < suc (length s) → get_or (b ∷ s) k 0 ≡ n
      go false q ih e k l = absurd (false≢true e)
      go true q ih e zero l = sym (eqb-true n b q)
      go true q ih e (suc k) l = ih e k (omega arith)

  -- as std says it
  pub all-are : (r : Bool) (s : List ℕ) → (IsTrue r ↔ EachIndex s (λ k. slice_index s k ≡ n)) → r ≡ all (eqb n) s
  all-are true s h = sym (each-all s (h.0 refl))
  all-are false s h = go (all (eqb n) s) refl
    where
      go : (t : Bool) → all (eqb n) s ≡ t → false ≡ t
      go true q = absurd (false≢true (h.1 (all-each s q)))
      go false q = refl
