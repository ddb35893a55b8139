-- The laws of leaves and roots: at most one for each program, and the leaves are the programs that are no parent, each once.
-- Assumes nothing.
use Prim.Native.Nat.{ℕ, zero, suc, ◌+◌, ◌≤◌, ◌<◌}
use mathlib.Core.Path.{◌≡◌, refl, ap, ◌∙◌}
use mathlib.Core.Bool.{Bool, true, false, not, cond, ◌&&◌, ◌||◌}
use mathlib.Core.List.{List, [], ◌∷◌, ◌++◌}
use native.Mathlib.Omega.{arith}
use lib.ListN.{length, length-map}
use lib.Dec.{eqb, ltb}
use borrow.Author.Tests.{eqb-true, eqb-false, ltb-true, ltb-false}
use Rattle.format.specs.Bytes.{any, distinct}
use Rattle.format.specs.Programs.{Link, root, dangling, child, roots_from, roots, numbers_from, last_or, but_last, instead, swap_remove, leaves_from, leaves}
use Rattle.program_chains.specs.Listed.{named}
use Rattle.program_chains.proofs.Times.{hit, times, Once, hit_same, hit_other, times_none, times-some, swap-once, swap-none, swap-some}
use Rattle.program_chains.proofs.Swaps.{front_length}

-- ---- counting

pub counting-length : (i n : ℕ) → length (numbers_from i n) ≡ n
unfolding numbers_from
counting-length i zero = refl
counting-length i (suc n) = ap suc (counting-length (i + 1) n)

-- one more comes last
pub counting_more : (i n : ℕ) → numbers_from i (suc n) ≡ numbers_from i n ++ (i + n) ∷ []
unfolding numbers_from
counting_more i zero = ap (λ x. x ∷ []) (omega arith)
counting_more i (suc n) = ap (λ r. i ∷ r) (counting_more (i + 1) n ∙ ap (λ x. numbers_from (i + 1) n ++ x ∷ []) (omega arith))

module _ (x : ℕ) where
  counting-above : (i n : ℕ) → x < i → times x (numbers_from i n) ≡ 0
  unfolding numbers_from times
  counting-above i zero h = refl
  counting-above i (suc n) h = omega (arith, hit_other x i (omega arith), counting-above (i + 1) n (omega arith))

  counting-below : (i n : ℕ) → i + n ≤ x → times x (numbers_from i n) ≡ 0
  unfolding numbers_from times
  counting-below i zero h = refl
  counting-below i (suc n) h = omega (arith, hit_other x i (omega arith), counting-below (i + 1) n (omega arith))

  counting-inside : (i n : ℕ) → i ≤ x → x < i + n → times x (numbers_from i n) ≡ 1
  unfolding numbers_from times hit
  counting-inside i zero h l = absurd (omega arith)
  counting-inside i (suc n) h l = go (eqb x i) refl (counting-inside (i + 1) n)
    where
      go : (t : Bool) → eqb x i ≡ t → (i + 1 ≤ x → x < i + 1 + n → times x (numbers_from (i + 1) n) ≡ 1) → cond t 1 0 + times x (numbers_from (i + 1) n) ≡ 1
      go true e ih = omega (arith, eqb-true x i e, counting-above (i + 1) n (omega (arith, eqb-true x i e)))
      go false e ih = omega (arith, ih (omega (arith, eqb-false x i e)) (omega arith))

  counting-times : (n : ℕ) → times x (numbers_from 0 n) ≡ cond (ltb x n) 1 0
  counting-times n = go (ltb x n) refl
    where
      go : (t : Bool) → ltb x n ≡ t → times x (numbers_from 0 n) ≡ cond t 1 0
      go true e = counting-inside 0 n (omega arith) (omega (arith, ltb-true x n e))
      go false e = counting-below 0 n (omega (arith, ltb-false x n e))

pub counting-once : (n : ℕ) → Once (numbers_from 0 n)
counting-once n x = rw (counting-times x n) (go (ltb x n))
  where
    go : (t : Bool) → cond t 1 0 ≤ 1
    go true = omega arith
    go false = omega arith

-- ---- a swap, and all of them

pub swap-keeps : (k : ℕ) (l : List ℕ) → Once l → Once (swap_remove k l)
swap-keeps k l o x = rw (swap-once x k l o) (go (eqb x k) (o x))
  where
    go : (t : Bool) → times x l ≤ 1 → cond t 0 (times x l) ≤ 1
    go true h = omega arith
    go false h = h

left-times : (x : ℕ) (l : List ℕ) (ls : List Link) → Once l → times x (leaves_from l ls) ≡ cond (named x ls) 0 (times x l)
unfolding leaves_from named
left-times x l [] o = refl
left-times x l (root ∷ ls) o = left-times x l ls o
left-times x l (dangling ∷ ls) o = left-times x l ls o
left-times x l (child k ∷ ls) o =
    left-times x (swap_remove k l) ls (swap-keeps k l o) ∙ ap (cond (named x ls) 0) (swap-once x k l o) ∙ go (eqb x k) (named x ls)
  where
    go : (s t : Bool) → cond t 0 (cond s 0 (times x l)) ≡ cond (s || t) 0 (times x l)
    go true true = refl
    go true false = refl
    go false true = refl
    go false false = refl

-- how often each number occurs among the leaves
pub leaves-times : (ls : List Link) (x : ℕ) → times x (leaves ls) ≡ cond (ltb x (length ls) && not (named x ls)) 1 0
unfolding leaves
leaves-times ls x =
    left-times x (numbers_from 0 (length ls)) ls (counting-once (length ls))
    ∙ ap (cond (named x ls) 0) (counting-times x (length ls))
    ∙ go (ltb x (length ls)) (named x ls)
  where
    go : (s t : Bool) → ◌≡◌ {A = ℕ} (cond t 0 (cond s 1 0)) (cond (s && not t) 1 0)
    go true true = refl
    go true false = refl
    go false true = refl
    go false false = refl

-- ---- what that says

any-times : (x : ℕ) (l : List ℕ) (b : Bool) → times x l ≡ cond b 1 0 → any (eqb x) l ≡ b
any-times x l b e = go (any (eqb x) l) refl b e
  where
    go : (s : Bool) → any (eqb x) l ≡ s → (t : Bool) → times x l ≡ cond t 1 0 → s ≡ t
    go true a true f = refl
    go true a false f = absurd (omega (arith, times-some x l a))
    go false a true f = absurd (omega (arith, times_none x l a))
    go false a false f = refl

-- a number is among the leaves exactly if it is a program's, and no program has it as its parent
pub leaves-exactly : (ls : List Link) (x : ℕ) → any (eqb x) (leaves ls) ≡ (ltb x (length ls) && not (named x ls))
leaves-exactly ls x = any-times x (leaves ls) (ltb x (length ls) && not (named x ls)) (leaves-times ls x)

once-distinct : (l : List ℕ) → Once l → distinct l ≡ true
unfolding distinct times
once-distinct [] o = refl
once-distinct (y ∷ l) o =
    let no_more : any (eqb y) l ≡ false = any-times y l false (omega (arith, o y, hit_same y)) in
    rw no_more (once-distinct l (λ x. omega (arith, o x)))

-- no program is twice among the leaves
pub leaves-distinct : (ls : List Link) → distinct (leaves ls) ≡ true
leaves-distinct ls = once-distinct (leaves ls) (λ x. rw (leaves-times ls x) (go (ltb x (length ls) && not (named x ls))))
  where
    go : (t : Bool) → cond t 1 0 ≤ 1
    go true = omega arith
    go false = omega arith

-- ---- at most one for each program

pub swap-length : (k : ℕ) (l : List ℕ) → length (swap_remove k l) ≤ length l
swap-length k l = go (any (eqb k) l) refl
  where
    go : (t : Bool) → any (eqb k) l ≡ t → length (swap_remove k l) ≤ length l
    go true e = rw (swap-some k l e, length-map (but_last l) (instead k (last_or 0 l))) (omega (arith, front_length l))
    go false e = rw (swap-none k l e) (omega arith)

left-length : (l : List ℕ) (ls : List Link) → length (leaves_from l ls) ≤ length l
unfolding leaves_from
left-length l [] = omega arith
left-length l (root ∷ ls) = left-length l ls
left-length l (dangling ∷ ls) = left-length l ls
left-length l (child k ∷ ls) = omega (arith, left-length (swap_remove k l) ls, swap-length k l)

pub leaves-length : (ls : List Link) → length (leaves ls) ≤ length ls
unfolding leaves
leaves-length ls = omega (arith, left-length (numbers_from 0 (length ls)) ls, counting-length 0 (length ls))

rooted-length : (i : ℕ) (ls : List Link) → length (roots_from i ls) ≤ length ls
unfolding roots_from
rooted-length i [] = omega arith
rooted-length i (root ∷ ls) = omega (arith, rooted-length (i + 1) ls)
rooted-length i (dangling ∷ ls) = omega (arith, rooted-length (i + 1) ls)
rooted-length i (child k ∷ ls) = omega (arith, rooted-length (i + 1) ls)

pub roots-length : (ls : List Link) → length (roots ls) ≤ length ls
unfolding roots
roots-length ls = rooted-length 0 ls
