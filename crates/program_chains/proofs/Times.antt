-- How often a number occurs in a list, and what a swap leaves of that. Assumes nothing.
use Prim.Native.Nat.{ℕ, ◌+◌, ◌≤◌, ◌<◌}
use mathlib.Core.Path.{◌≡◌, refl, sym, ap, ◌∙◌}
use mathlib.Core.Bool.{Bool, true, false, cond, ◌||◌, false≢true}
use mathlib.Core.List.{List, [], ◌∷◌, map}
use native.Mathlib.Omega.{arith}
use lib.ListN.{length}
use lib.Dec.{eqb}
use borrow.Author.Tests.{eq-eqb, ne_eqb, eqb-true}
use Rattle.format.specs.Bytes.{any}
use Rattle.format.specs.Programs.{last_or, but_last, instead, swap_remove}

unfoldable pub hit : ℕ → ℕ → ℕ
hit x y = cond (eqb x y) 1 0

-- how often `x` occurs in a list
unfoldable pub times : ℕ → List ℕ → ℕ
unfolding hit
times x [] = 0
times x (y ∷ ys) = hit x y + times x ys

-- no number occurs in it twice
abbrev pub Once : List ℕ → Type 0
Once xs = (x : ℕ) → times x xs ≤ 1

pub hit_same : (x : ℕ) → hit x x ≡ 1
unfolding hit
hit_same x = rw (eq-eqb x x refl) refl

pub hit_other : (x y : ℕ) → (x ≡ y → ⊥) → hit x y ≡ 0
unfolding hit
hit_other x y h = rw (ne_eqb x y h) refl

pub times_none : (x : ℕ) (l : List ℕ) → any (eqb x) l ≡ false → times x l ≡ 0
unfolding any times
times_none x [] h = refl
times_none x (y ∷ l) h = go (eqb x y) h (times_none x l)
  where
    go : (t : Bool) → t || any (eqb x) l ≡ false → (any (eqb x) l ≡ false → times x l ≡ 0) → cond t 1 0 + times x l ≡ 0
    go true e ih = absurd (false≢true (sym e))
    go false e ih = omega (arith, ih e)

pub times-some : (x : ℕ) (l : List ℕ) → any (eqb x) l ≡ true → 1 ≤ times x l
unfolding any times
times-some x [] h = absurd (false≢true h)
times-some x (y ∷ l) h = go (eqb x y) h (times-some x l)
  where
    go : (t : Bool) → t || any (eqb x) l ≡ true → (any (eqb x) l ≡ true → 1 ≤ times x l) → 1 ≤ cond t 1 0 + times x l
    go true e ih = omega arith
    go false e ih = omega (arith, ih e)

-- ---- the last, and the others

pub times-last : (x : ℕ) (l : List ℕ) → 0 < length l → times x l ≡ times x (but_last l) + hit x (last_or 0 l)
unfolding times but_last last_or
times-last x [] h = absurd (omega arith)
times-last x (a ∷ []) h = omega arith
times-last x (a ∷ b ∷ l) h = omega (arith, times-last x (b ∷ l) (omega arith))

more : (a b : Bool) (s t u : ℕ) → s + cond a t 0 ≡ u + cond b t 0 → cond b 1 0 + s + cond a (1 + t) 0 ≡ cond a 1 0 + u + cond b (1 + t) 0
more true true s t u h = omega arith
more true false s t u h = omega arith
more false true s t u h = omega arith
more false false s t u h = omega arith

as_many : (a b : Bool) (h s t u : ℕ) → s + cond a t 0 ≡ u + cond b t 0 → h + s + cond a (0 + t) 0 ≡ h + u + cond b (0 + t) 0
as_many true true h s t u e = omega arith
as_many true false h s t u e = omega arith
as_many false true h s t u e = omega arith
as_many false false h s t u e = omega arith

-- `z` instead of `k`: as often as `k` was there
pub times-instead : (x k z : ℕ) (m : List ℕ) → times x (map (instead k z) m) + cond (eqb x k) (times k m) 0 ≡ times x m + cond (eqb x z) (times k m) 0
unfolding times instead
times-instead x k z [] = none (eqb x k) (eqb x z)
  where
    none : (a b : Bool) → 0 + cond a 0 0 ≡ 0 + cond b 0 0
    none true true = refl
    none true false = refl
    none false true = refl
    none false false = refl
times-instead x k z (y ∷ m) = go (eqb k y) refl (times-instead x k z m)
  where
    go : (t : Bool) → eqb k y ≡ t
        → times x (map (instead k z) m) + cond (eqb x k) (times k m) 0 ≡ times x m + cond (eqb x z) (times k m) 0
        → hit x (cond t z y) + times x (map (instead k z) m) + cond (eqb x k) (cond t 1 0 + times k m) 0
        ≡ hit x y + times x m + cond (eqb x z) (cond t 1 0 + times k m) 0
    go true e ih = rw (← eqb-true k y e) (more (eqb x k) (eqb x z) (times x (map (instead k z) m)) (times k m) (times x m) ih)
    go false e ih = as_many (eqb x k) (eqb x z) (hit x y) (times x (map (instead k z) m)) (times k m) (times x m) ih

-- ---- a swap

pub swap-none : (k : ℕ) (l : List ℕ) → any (eqb k) l ≡ false → swap_remove k l ≡ l
unfolding swap_remove
swap-none k l e = rw e refl

pub swap-some : (k : ℕ) (l : List ℕ) → any (eqb k) l ≡ true → swap_remove k l ≡ map (instead k (last_or 0 l)) (but_last l)
unfolding swap_remove
swap-some k l e = rw e refl

filled : (l : List ℕ) (k : ℕ) → any (eqb k) l ≡ true → 0 < length l
unfolding any
filled [] k e = absurd (false≢true e)
filled (y ∷ l) k e = omega arith

same_none : (a b : Bool) (s u : ℕ) → s + cond a 0 0 ≡ u + cond b 0 0 → s ≡ u
same_none true true s u h = omega arith
same_none true false s u h = omega arith
same_none false true s u h = omega arith
same_none false false s u h = omega arith

-- of `k` and `z`, which is the last, one is left
moved : (x k z : ℕ) (m : List ℕ) → times k m + hit k z ≡ 1 → times x (map (instead k z) m) + hit x k ≡ times x m + hit x z
unfolding hit
moved x k z m o = go (eqb k z) refl o
  where
    go : (t : Bool) → eqb k z ≡ t → times k m + cond t 1 0 ≡ 1 → times x (map (instead k z) m) + cond (eqb x k) 1 0 ≡ times x m + cond (eqb x z) 1 0
    go true e h =
        let gone : times k m ≡ 0 = omega arith in
        let same : times x (map (instead k z) m) ≡ times x m =
        same_none (eqb x k) (eqb x z) (times x (map (instead k z) m)) (times x m) (rw gone at (times-instead x k z m)) in
        rw (same, eqb-true k z e) refl
    go false e h =
        let one : times k m ≡ 1 = omega arith in
        rw one at (times-instead x k z m)

-- `k`, which occurs there once, goes
pub swap-times : (x k : ℕ) (l : List ℕ) → any (eqb k) l ≡ true → times k l ≡ 1 → times x (swap_remove k l) + hit x k ≡ times x l
swap-times x k l e o =
    let h : 0 < length l = filled l k e in
    rw (swap-some k l e, times-last x l h) (moved x k (last_or 0 l) (but_last l) (sym (times-last k l h) ∙ o))

-- the same for a list in which no number occurs twice
pub swap-once : (x k : ℕ) (l : List ℕ) → Once l → times x (swap_remove k l) ≡ cond (eqb x k) 0 (times x l)
unfolding hit
swap-once x k l o = go (any (eqb k) l) refl (eqb x k) refl
  where
    gone : any (eqb k) l ≡ true → times x (swap_remove k l) + cond (eqb x k) 1 0 ≡ times x l
    gone e = swap-times x k l e (omega (arith, o k, times-some k l e))

    go : (s : Bool) → any (eqb k) l ≡ s → (t : Bool) → eqb x k ≡ t → times x (swap_remove k l) ≡ cond t 0 (times x l)
    go true e true d = omega (arith, o x, rw d at (gone e))
    go true e false d = omega (arith, rw d at (gone e))
    go false e true d = ap (times x) (swap-none k l e) ∙ ap (λ y. times y l) (eqb-true x k d) ∙ times_none k l e
    go false e false d = ap (times x) (swap-none k l e)
