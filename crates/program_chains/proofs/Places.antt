-- The place of each number that is listed: it finds what a search would find, and a swap turns one of them. Assumes nothing.
use Prim.Native.Nat.{ℕ, zero, suc, ◌+◌, ◌-◌, ◌≤◌, ◌<◌}
use mathlib.Core.Path.{◌≡◌, refl, sym, ap, subst, ◌∙◌}
use mathlib.Core.Bool.{Bool, true, false, cond}
use mathlib.Core.List.{List, [], ◌∷◌}
use native.Mathlib.Omega.{arith}
use lib.ListN.{length, get_or, set, length-set}
use lib.Seq.{get_or-set_same, get_or-set_other}
use lib.Dec.{eqb, ltb}
use borrow.Author.Tests.{eqb-true, eqb-false, ltb-true, ltb-false}
use Rattle.format.specs.Programs.{numbers_from, last_or, but_last, swap_remove}
use Rattle.program_chains.specs.Parents.{in_array, index_in, HasPlaces}
use Rattle.program_chains.proofs.Arrays.{array_at}
use Rattle.program_chains.proofs.Leaf.{counting-length}
use Rattle.program_chains.proofs.Swaps.{place-le, swap-set, swap-shorter, last-at}
use Rattle.program_chains.proofs.Times.{times}

-- ---- a search

there-is : (x : ℕ) (l : List ℕ) → index_in x l < length l → get_or l (index_in x l) 0 ≡ x
unfolding index_in
there-is x [] h = absurd (omega arith)
there-is x (y ∷ l) h = go (eqb x y) refl h (there-is x l)
  where
    go : (t : Bool) → eqb x y ≡ t → cond t 0 (suc (index_in x l)) < suc (length l) → (index_in x l < length l → get_or l (index_in x l) 0 ≡ x)
        → get_or (y ∷ l) (cond t 0 (suc (index_in x l))) 0 ≡ x
    go true e s ih = sym (eqb-true x y e)
    go false e s ih = ih (omega arith)

at-most-there : (x : ℕ) (l : List ℕ) (j : ℕ) → j < length l → x ≡ get_or l j 0 → index_in x l ≤ j
unfolding index_in
at-most-there x [] j h e = absurd (omega arith)
at-most-there x (y ∷ l) j h e = go (eqb x y) refl j h e (at-most-there x l)
  where
    go : (t : Bool) → eqb x y ≡ t → (i : ℕ) → i < suc (length l) → x ≡ get_or (y ∷ l) i 0 → ((k : ℕ) → k < length l → x ≡ get_or l k 0 → index_in x l ≤ k)
        → cond t 0 (suc (index_in x l)) ≤ i
    go true q i m is ih = omega arith
    go false q zero m is ih = absurd (eqb-false x y q is)
    go false q (suc i) m is ih = omega (arith, ih i (omega arith) is)

module _ (x : ℕ) (l places : List ℕ) (has : HasPlaces places l) where
  -- where it is listed its place is found
  listed : index_in x l < length l → get_or places x 0 ≡ index_in x l
  listed h = ap (λ y. get_or places y 0) (sym (there-is x l h)) ∙ (has (index_in x l) h).1

  pub found-place : get_or places x 0 < length l → x ≡ get_or l (get_or places x 0) 0 → get_or places x 0 ≡ index_in x l
  found-place h e = listed (omega (arith, at-most-there x l (get_or places x 0) h e))

  -- and otherwise there is none
  absent : (index_in x l < length l → ⊥) → length l ≡ index_in x l
  absent gone = go (ltb (index_in x l) (length l)) refl
    where
      go : (t : Bool) → ltb (index_in x l) (length l) ≡ t → length l ≡ index_in x l
      go true q = absurd (gone (ltb-true (index_in x l) (length l) q))
      go false q = omega (arith, ltb-false (index_in x l) (length l) q, place-le x l)

  pub other-there : (x ≡ get_or l (get_or places x 0) 0 → ⊥) → length l ≡ index_in x l
  other-there e = absent (λ h. e (sym (there-is x l h) ∙ ap (λ j. get_or l j 0) (sym (listed h))))

  pub none-there : length l ≤ get_or places x 0 → length l ≡ index_in x l
  none-there n = absent (λ h. omega (arith, listed h))

-- ---- all programs in order

counting-at : (i n j : ℕ) → j < n → get_or (numbers_from i n) j 0 ≡ i + j
unfolding numbers_from
counting-at i zero j h = absurd (omega arith)
counting-at i (suc n) zero h = omega arith
counting-at i (suc n) (suc j) h = omega (arith, counting-at (i + 1) n j (omega arith))

pub counting-places : (n : ℕ) → n ≤ 1024 → HasPlaces (in_array (numbers_from 0 n)) (numbers_from 0 n)
counting-places n few j h =
    let l : j < n = omega (arith, counting-length 0 n) in
    let e : get_or (numbers_from 0 n) j 0 ≡ j = omega (arith, counting-at 0 n j l) in
    (omega (arith, e), ap (λ x. get_or (in_array (numbers_from 0 n)) x 0) e ∙ array_at (numbers_from 0 n) j h ∙ e)

-- ---- a swap

front_at : (l : List ℕ) (j : ℕ) → j < length l - 1 → get_or (but_last l) j 0 ≡ get_or l j 0
unfolding but_last
front_at [] j h = refl
front_at (a ∷ []) j h = absurd (omega arith)
front_at (a ∷ b ∷ l) zero h = refl
front_at (a ∷ b ∷ l) (suc j) h = front_at (b ∷ l) j (omega arith)

-- the last of the list has the place of `k`
module _ (k n : ℕ) (l places : List ℕ) (once : times k l ≤ 1) (there : index_in k l < length l) (e : n ≡ length l - 1) (sized : length places ≡ 1024) (has : HasPlaces places l) where
  abbrev last : ℕ
  last = get_or l n 0

  swapped : (j : ℕ) → j < n → get_or (swap_remove k l) j 0 ≡ get_or (set l (index_in k l) last) j 0
  swapped j h =
      ap (λ r. get_or r j 0) (swap-set k l once there)
      ∙ front_at (set l (index_in k l) (last_or 0 l)) j (omega (arith, length-set l (index_in k l) (last_or 0 l)))
      ∙ ap (λ v. get_or (set l (index_in k l) v) j 0) (sym (ap (λ m. get_or l m 0) e ∙ last-at l (omega arith)))

  pub swap_places : HasPlaces (set places last (index_in k l)) (swap_remove k l)
  swap_places j h = go (eqb j (index_in k l)) refl
    where
      shorter : length (swap_remove k l) ≡ length l - 1
      shorter = swap-shorter k l once there

      less : j < n
      less = omega (arith, shorter)

      at_last : (last < 1024) × (get_or places last 0 ≡ n)
      at_last = has n (omega arith)

      Right : ℕ → Type 0
      Right v = (v < 1024) × (get_or (set places last (index_in k l)) v 0 ≡ j)

      go : (t : Bool) → eqb j (index_in k l) ≡ t → Right (get_or (swap_remove k l) j 0)
      go true q =
          let same : j ≡ index_in k l = eqb-true j (index_in k l) q in
          subst Right (sym (swapped j less ∙ ap (λ i. get_or (set l (index_in k l) last) i 0) same ∙ get_or-set_same l (index_in k l) last 0 there))
          (at_last.0, get_or-set_same places last (index_in k l) 0 (omega (arith, at_last.0)) ∙ sym same)
      go false q =
          let here = has j (omega (arith, less)) in
          let other : get_or l j 0 ≡ last → ⊥ = λ r. omega (arith, less, here.1, at_last.1, ap (λ v. get_or places v 0) r) in
          subst Right (sym (swapped j less ∙ get_or-set_other l (index_in k l) j last 0 (eqb-false j (index_in k l) q)))
          (here.0, get_or-set_other places last (get_or l j 0) (index_in k l) 0 other ∙ here.1)
