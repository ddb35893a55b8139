-- A swap by places: the last takes the place of the number that goes, and the array has a zero after it. Assumes nothing.
use Prim.Native.Nat.{ℕ, zero, suc, ◌+◌, ◌-◌, ◌≤◌, ◌<◌}
use mathlib.Core.Path.{◌≡◌, refl, sym, ap, ◌∙◌}
use mathlib.Core.Bool.{Bool, true, false, cond, ◌||◌}
use mathlib.Core.List.{List, [], ◌∷◌, ◌++◌, map}
use native.Mathlib.Omega.{arith}
use lib.ListN.{length, get_or, set, length-set}
use lib.Seq.{get_or-append_seam}
use lib.Dec.{eqb, ltb, leb-suc-suc}
use borrow.Author.Tests.{lt-ltb}
use Rattle.format.specs.Bytes.{any}
use Rattle.format.specs.Programs.{last_or, but_last, instead, swap_remove}
use Rattle.program_chains.specs.Parents.{in_array, index_in}
use Rattle.program_chains.proofs.Arrays.{array_at, array-set, array-pop}
use Rattle.program_chains.proofs.Times.{hit, times, times-last, swap-some}

-- ---- places

pub place-any : (x : ℕ) (l : List ℕ) → any (eqb x) l ≡ ltb (index_in x l) (length l)
unfolding any index_in
place-any x [] = refl
place-any x (y ∷ l) = go (eqb x y) (place-any x l)
  where
    go : (t : Bool) → any (eqb x) l ≡ ltb (index_in x l) (length l) → (t || any (eqb x) l) ≡ ltb (cond t 0 (suc (index_in x l))) (suc (length l))
    go true ih = sym (lt-ltb 0 (suc (length l)) (omega arith))
    go false ih = ih ∙ sym (leb-suc-suc (suc (index_in x l)) (length l))

pub place-le : (x : ℕ) (l : List ℕ) → index_in x l ≤ length l
unfolding index_in
place-le x [] = omega arith
place-le x (y ∷ l) = go (eqb x y) (place-le x l)
  where
    go : (t : Bool) → index_in x l ≤ length l → cond t 0 (suc (index_in x l)) ≤ suc (length l)
    go true ih = omega arith
    go false ih = omega arith

-- a number that is there has its place among all but the last, or it is the last
place-front : (x : ℕ) (l : List ℕ) → index_in x l < length l → index_in x (but_last l) ≡ index_in x l
unfolding index_in but_last
place-front x [] h = refl
place-front x (a ∷ []) h = omega arith
place-front x (a ∷ b ∷ l) h = go (eqb x a) h (place-front x (b ∷ l))
  where
    go : (t : Bool) → cond t 0 (suc (index_in x (b ∷ l))) < suc (suc (length l)) → (index_in x (b ∷ l) < suc (length l) → index_in x (but_last (b ∷ l)) ≡ index_in x (b ∷ l))
        → cond t 0 (suc (index_in x (but_last (b ∷ l)))) ≡ cond t 0 (suc (index_in x (b ∷ l)))
    go true s ih = refl
    go false s ih = ap suc (ih (omega arith))

-- ---- one number instead of another, by its place

instead-none : (x z : ℕ) (m : List ℕ) → times x m ≡ 0 → map (instead x z) m ≡ m
unfolding times hit instead
instead-none x z [] h = refl
instead-none x z (y ∷ m) h = go (eqb x y) h (instead-none x z m)
  where
    go : (t : Bool) → cond t 1 0 + times x m ≡ 0 → (times x m ≡ 0 → map (instead x z) m ≡ m) → cond t z y ∷ map (instead x z) m ≡ y ∷ m
    go true s ih = absurd (omega arith)
    go false s ih = ap (λ r. y ∷ r) (ih (omega arith))

instead-set : (x z : ℕ) (m : List ℕ) → times x m ≤ 1 → map (instead x z) m ≡ set m (index_in x m) z
unfolding times hit instead index_in
instead-set x z [] h = refl
instead-set x z (y ∷ m) h = go (eqb x y) h (instead-set x z m)
  where
    go : (t : Bool) → cond t 1 0 + times x m ≤ 1 → (times x m ≤ 1 → map (instead x z) m ≡ set m (index_in x m) z)
        → cond t z y ∷ map (instead x z) m ≡ set (y ∷ m) (cond t 0 (suc (index_in x m))) z
    go true s ih = ap (λ r. z ∷ r) (instead-none x z m (omega arith))
    go false s ih = ap (λ r. y ∷ r) (ih (omega arith))

front-set : (l : List ℕ) (i v : ℕ) → set (but_last l) i v ≡ but_last (set l i v)
unfolding but_last
front-set [] i v = refl
front-set (a ∷ []) zero v = refl
front-set (a ∷ []) (suc i) v = refl
front-set (a ∷ b ∷ l) zero v = refl
front-set (a ∷ b ∷ l) (suc zero) v = ap (λ r. a ∷ r) (front-set (b ∷ l) zero v)
front-set (a ∷ b ∷ l) (suc (suc i)) v = ap (λ r. a ∷ r) (front-set (b ∷ l) (suc i) v)

-- the swap as one store and a list that is shorter by one
pub swap-set : (k : ℕ) (l : List ℕ) → times k l ≤ 1 → index_in k l < length l → swap_remove k l ≡ but_last (set l (index_in k l) (last_or 0 l))
swap-set k l o h =
    swap-some k l (place-any k l ∙ lt-ltb (index_in k l) (length l) h)
    ∙ instead-set k (last_or 0 l) (but_last l) (omega (arith, times-last k l (omega arith)))
    ∙ ap (λ i. set (but_last l) i (last_or 0 l)) (place-front k l h)
    ∙ front-set l (index_in k l) (last_or 0 l)

-- ---- the same in the array

front-last : (l : List ℕ) → 0 < length l → but_last l ++ last_or 0 l ∷ [] ≡ l
unfolding but_last last_or
front-last [] h = absurd (omega arith)
front-last (a ∷ []) h = refl
front-last (a ∷ b ∷ l) h = ap (λ r. a ∷ r) (front-last (b ∷ l) (omega arith))

pub front_length : (l : List ℕ) → length (but_last l) ≡ length l - 1
unfolding but_last
front_length [] = omega arith
front_length (a ∷ []) = omega arith
front_length (a ∷ b ∷ l) = omega (arith, front_length (b ∷ l))

pub last-at : (l : List ℕ) → 0 < length l → get_or l (length l - 1) 0 ≡ last_or 0 l
last-at l h =
    ap (λ r. get_or r (length l - 1) 0) (sym (front-last l h))
    ∙ ap (λ n. get_or (but_last l ++ last_or 0 l ∷ []) n 0) (sym (front_length l))
    ∙ get_or-append_seam (but_last l) (last_or 0 l) [] 0

array-front : (l : List ℕ) → 0 < length l → length l ≤ 1024 → set (in_array l) (length l - 1) 0 ≡ in_array (but_last l)
array-front l h f =
    ap (λ r. set (in_array r) (length l - 1) 0) (sym (front-last l h))
    ∙ ap (λ n. set (in_array (but_last l ++ last_or 0 l ∷ [])) n 0) (sym (front_length l))
    ∙ array-pop (but_last l) (last_or 0 l) (omega (arith, front_length l))

-- the last of the list to the place of `k`, a zero to the last place
pub array-swap : (k n : ℕ) (l : List ℕ) → times k l ≤ 1 → index_in k l < length l → length l ≤ 1024 → n ≡ length l - 1
    → set (set (in_array l) (index_in k l) (get_or (in_array l) n 0)) n 0 ≡ in_array (swap_remove k l)
array-swap k n l o h f e =
    let p = index_in k l in
    let z : get_or (in_array l) n 0 ≡ last_or 0 l = ap (λ m. get_or (in_array l) m 0) e ∙ array_at l (length l - 1) (omega arith) ∙ last-at l (omega arith) in
    let s : length (set l p (last_or 0 l)) ≡ length l = length-set l p (last_or 0 l) in
    ap (λ v. set (set (in_array l) p v) n 0) z
    ∙ ap (λ r. set r n 0) (array-set l p (last_or 0 l) h)
    ∙ ap (λ m. set (in_array (set l p (last_or 0 l))) m 0) (e ∙ ap (λ m. m - 1) (sym s))
    ∙ array-front (set l p (last_or 0 l)) (omega arith) (omega arith)
    ∙ ap in_array (sym (swap-set k l o h))

pub swap-shorter : (k : ℕ) (l : List ℕ) → times k l ≤ 1 → index_in k l < length l → length (swap_remove k l) ≡ length l - 1
swap-shorter k l o h =
    ap length (swap-set k l o h)
    ∙ front_length (set l (index_in k l) (last_or 0 l))
    ∙ ap (λ n. n - 1) (length-set l (index_in k l) (last_or 0 l))
