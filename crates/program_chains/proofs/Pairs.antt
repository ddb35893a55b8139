-- Of two numbers at most one is below the other: a list has at most n(n-1)/2 such pairs. Assumes nothing.
use Prim.Native.Nat.{ℕ, zero, suc, ◌+◌, ◌*◌, ◌≤◌, ◌<◌}
use mathlib.Core.Path.{◌≡◌, refl}
use mathlib.Core.Bool.{Bool, true, false, cond}
use mathlib.Core.List.{List, [], ◌∷◌}
use native.Mathlib.Omega.{arith}
use native.Mathlib.Nat.{mul-suc, suc-mul}
use lib.ListN.{length, get_or}
use lib.Dec.{ltb}
use borrow.Author.Tests.{lt-ltb, le-ltb, ltb-true, ltb-false}

unfoldable pub less : ℕ → ℕ → ℕ
less e d = cond (ltb e d) 1 0

pub less-yes : (e d : ℕ) → e < d → less e d ≡ 1
unfolding less
less-yes e d h = rw (lt-ltb e d h) refl

pub less-no : (e d : ℕ) → d ≤ e → less e d ≡ 0
unfolding less
less-no e d h = rw (le-ltb e d h) refl

-- below `d`, or not
less-cases : (e d : ℕ) → (P : ℕ → Type 0) → (e < d → P 1) → (d ≤ e → P 0) → P (less e d)
unfolding less
less-cases e d P y n = go (ltb e d) refl
  where
    go : (t : Bool) → ltb e d ≡ t → P (cond t 1 0)
    go true s = y (ltb-true e d s)
    go false s = n (ltb-false e d s)

less-up : (e d : ℕ) → less e d ≤ less e (suc d)
less-up e d = less-cases e d (λ n. n ≤ less e (suc d)) (λ h. omega (arith, less-yes e (suc d) (omega arith))) (λ h. omega arith)

less-either : (e d : ℕ) → less e d + less d e ≤ 1
less-either e d = less-cases e d (λ n. n + less d e ≤ 1) (λ h. omega (arith, less-no d e (omega arith))) (λ h. less-cases d e (λ n. 0 + n ≤ 1) (λ k. omega arith) (λ k. omega arith))

-- how many of a list are below `d`, and how many above `e`
unfoldable pub under : ℕ → List ℕ → ℕ
unfolding less
under d [] = 0
under d (e ∷ es) = less e d + under d es

over : ℕ → List ℕ → ℕ
over e [] = 0
over e (d ∷ ds) = less e d + over e ds

-- the pairs of one number of `ds` and one of `es` that is below it
unfoldable pub unders : List ℕ → List ℕ → ℕ
unfolding under
unders [] es = 0
unders (d ∷ ds) es = under d es + unders ds es

under-over : (x : ℕ) (ds : List ℕ) → under x ds + over x ds ≤ length ds
unfolding under over
under-over x [] = omega arith
under-over x (d ∷ ds) = omega (arith, under-over x ds, less-either d x)

unders-more : (x : ℕ) (ds es : List ℕ) → unders ds (x ∷ es) ≡ over x ds + unders ds es
unfolding unders under over
unders-more x [] es = omega arith
unders-more x (d ∷ ds) es = omega (arith, unders-more x ds es)

square : (n : ℕ) → suc n * suc n ≡ n * n + n + n + 1
square n = omega (arith, suc-mul n (suc n), mul-suc n n)

pub pairs : (ds : List ℕ) → 2 * unders ds ds + length ds ≤ length ds * length ds
unfolding unders under
pairs [] = omega arith
pairs (x ∷ ds) = omega (arith, pairs ds, under-over x ds, unders-more x ds ds, less-no x x (omega arith), square (length ds))

-- one that is `d` is below the next number, and not below `d`
under_up : (d : ℕ) (es : List ℕ) → under d es ≤ under (suc d) es
unfolding under
under_up d [] = omega arith
under_up d (e ∷ es) = omega (arith, less-up e d, under_up d es)

pub under_next : (d k : ℕ) (es : List ℕ) → k < length es → get_or es k 0 ≡ d → suc (under d es) ≤ under (suc d) es
unfolding under
under_next d k [] h e = absurd (omega arith)
under_next d zero (x ∷ es) h e = omega (arith, less-no x d (omega arith), less-yes x (suc d) (omega arith), under_up d es)
under_next d (suc k) (x ∷ es) h e = omega (arith, less-up x d, under_next d k es (omega arith) e)
