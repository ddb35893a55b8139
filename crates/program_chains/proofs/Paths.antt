-- Without a cycle a walk names no program twice, so it has fewer steps than there are programs. Assumes nothing.
use Prim.Native.Nat.{ℕ, zero, suc, ◌+◌, ◌≤◌, ◌<◌}
use mathlib.Core.Path.{◌≡◌, refl, sym, ap, ◌∙◌}
use mathlib.Core.Bool.{Bool, true, false, cond, ◌||◌, or-true}
use mathlib.Core.List.{List, [], ◌∷◌}
use native.Mathlib.Omega.{arith}
use native.Mathlib.Nat.{zero-add}
use lib.ListN.{length, get_or}
use lib.Dec.{eqb, ltb}
use borrow.Author.Tests.{eq-eqb, eqb-true, eqb-false, ltb-true, ltb-false}
use Rattle.format.specs.Bytes.{any}
use Rattle.format.specs.Programs.{Link, root, dangling, child, reaches, loops_from, depth}
use Rattle.program_chains.specs.Listed.{named}
use Rattle.lists.proofs.Bools.{both_false}
use Rattle.program_chains.proofs.Times.{hit, times, Once, hit_same, hit_other, times_none}
use Rattle.program_chains.proofs.Walks.{reaches-root}

-- ---- as many as there is room for

-- how many of a list are below `n`, by their values
total : ℕ → List ℕ → ℕ
total zero l = 0
total (suc n) l = times n l + total n l

total-le : (n : ℕ) (l : List ℕ) → Once l → total n l ≤ n
unfolding total
total-le zero l o = omega arith
total-le (suc n) l o = omega (arith, o n, total-le n l o)

total-none : (n : ℕ) → total n [] ≡ 0
unfolding total times
total-none zero = refl
total-none (suc n) = omega (arith, total-none n)

total-out : (n y : ℕ) (l : List ℕ) → n ≤ y → total n (y ∷ l) ≡ total n l
unfolding total times
total-out zero y l h = refl
total-out (suc n) y l h = omega (arith, hit_other n y (omega arith), total-out n y l (omega arith))

total-in : (n y : ℕ) (l : List ℕ) → y < n → total n (y ∷ l) ≡ suc (total n l)
unfolding total times hit
total-in zero y l h = absurd (omega arith)
total-in (suc n) y l h = go (eqb n y) refl (total-in n y l)
  where
    go : (t : Bool) → eqb n y ≡ t → (y < n → total n (y ∷ l) ≡ suc (total n l))
        → cond t 1 0 + times n l + total n (y ∷ l) ≡ suc (times n l + total n l)
    go true e ih = omega (arith, total-out n y l (omega (arith, eqb-true n y e)))
    go false e ih = omega (arith, ih (omega (arith, eqb-false n y e)))

-- every number of a list is below `n`
abbrev pub Inside : ℕ → List ℕ → Type 0
Inside n l = (x : ℕ) → n ≤ x → times x l ≡ 0

total-all : (n : ℕ) (l : List ℕ) → Inside n l → total n l ≡ length l
unfolding times
total-all n [] h = total-none n
total-all n (y ∷ l) h = go (ltb y n) refl (total-all n l (λ x k. omega (arith, h x k)))
  where
    go : (t : Bool) → ltb y n ≡ t → total n l ≡ length l → total n (y ∷ l) ≡ suc (length l)
    go true e ih = omega (arith, total-in n y l (ltb-true y n e))
    go false e ih = absurd (omega (arith, h y (ltb-false y n e), hit_same y))

-- numbers below `n`, none twice, are at most `n`
pub at_most : (n : ℕ) (l : List ℕ) → Inside n l → Once l → length l ≤ n
at_most n l h o = omega (arith, total-all n l h, total-le n l o)

-- ---- the programs of a walk

-- the programs from `l` on, parent by parent, at most `f` of them
path : List Link → ℕ → Link → List ℕ
path ls zero l = []
path ls (suc f) root = []
path ls (suc f) dangling = []
path ls (suc f) (child k) = k ∷ path ls f (get_or ls k root)

path-length : (ls : List Link) (f : ℕ) (l : Link) → length (path ls f l) ≡ depth ls f l
unfolding path depth
path-length ls zero l = refl
path-length ls (suc f) root = refl
path-length ls (suc f) dangling = refl
path-length ls (suc f) (child k) = ap suc (path-length ls f (get_or ls k root))

path-any : (ls : List Link) (i f : ℕ) (l : Link) → any (eqb i) (path ls f l) ≡ reaches ls i f l
unfolding path any reaches
path-any ls i zero l = refl
path-any ls i (suc f) root = refl
path-any ls i (suc f) dangling = refl
path-any ls i (suc f) (child k) = ap (λ t. eqb i k || t) (path-any ls i f (get_or ls k root))

pub reaches-fewer : (ls : List Link) (i f n : ℕ) (l : Link) → f ≤ n → reaches ls i n l ≡ false → reaches ls i f l ≡ false
unfolding reaches
reaches-fewer ls i zero n l h e = refl
reaches-fewer ls i (suc f) zero l h e = absurd (omega arith)
reaches-fewer ls i (suc f) (suc n) root h e = refl
reaches-fewer ls i (suc f) (suc n) dangling h e = refl
reaches-fewer ls i (suc f) (suc n) (child k) h e =
    let both = both_false (eqb i k) (reaches ls i n (get_or ls k root)) e in
    rw both.0 (reaches-fewer ls i f n (get_or ls k root) (omega arith) both.1)

-- ---- no cycle

pub loops-at : (all : List Link) (i : ℕ) (ls : List Link) (j : ℕ) → loops_from all i ls ≡ false → reaches all (i + j) (length all) (get_or ls j root) ≡ false
unfolding loops_from
loops-at all i [] j e = reaches-root all (i + j) (length all)
loops-at all i (l ∷ ls) zero e =
    ap (λ n. reaches all n (length all) l) (omega arith) ∙ (both_false (reaches all i (length all) l) (loops_from all (i + 1) ls) e).0
loops-at all i (l ∷ ls) (suc j) e =
    ap (λ n. reaches all n (length all) (get_or ls j root)) (omega arith)
    ∙ loops-at all (i + 1) ls j (both_false (reaches all i (length all) l) (loops_from all (i + 1) ls) e).1

-- a parent, if there is one, is below `n`
abbrev pub Below : ℕ → Link → Type 0
Below n root = Unit
Below n dangling = Unit
Below n (child k) = k < n

named_here : (k : ℕ) (ls : List Link) → named k (child k ∷ ls) ≡ true
unfolding named
named_here k ls = rw (eq-eqb k k refl) refl

named-later : (k : ℕ) (l : Link) (ls : List Link) → named k ls ≡ true → named k (l ∷ ls) ≡ true
unfolding named
named-later k root ls e = e
named-later k dangling ls e = e
named-later k (child j) ls e = rw e (or-true (eqb k j))

pub below_at : (n : ℕ) (ls : List Link) → ((k : ℕ) → named k ls ≡ true → k < n) → (j : ℕ) → Below n (get_or ls j root)
below_at n [] b j = tt
below_at n (root ∷ ls) b zero = tt
below_at n (dangling ∷ ls) b zero = tt
below_at n (child k ∷ ls) b zero = b k (named_here k ls)
below_at n (l ∷ ls) b (suc j) = below_at n ls (λ k e. b k (named-later k l ls e)) j

module _ (ls : List Link) (acyclic : loops_from ls 0 ls ≡ false) (below : (k : ℕ) → named k ls ≡ true → k < length ls) where
  pub no_return : (k : ℕ) → reaches ls k (length ls) (get_or ls k root) ≡ false
  no_return k = ap (λ n. reaches ls n (length ls) (get_or ls k root)) (sym (zero-add k)) ∙ loops-at ls 0 ls k acyclic

  path-once : (f : ℕ) (l : Link) → f ≤ suc (length ls) → Once (path ls f l)
  unfolding path times hit
  path-once zero l h x = omega arith
  path-once (suc f) root h x = omega arith
  path-once (suc f) dangling h x = omega arith
  path-once (suc f) (child k) h x = go (eqb x k) refl (path-once f (get_or ls k root) (omega arith) x)
    where
      gone : times k (path ls f (get_or ls k root)) ≡ 0
      gone = times_none k (path ls f (get_or ls k root)) (path-any ls k f (get_or ls k root) ∙ reaches-fewer ls k f (length ls) (get_or ls k root) (omega arith) (no_return k))

      go : (t : Bool) → eqb x k ≡ t → times x (path ls f (get_or ls k root)) ≤ 1 → cond t 1 0 + times x (path ls f (get_or ls k root)) ≤ 1
      go true e ih = omega (arith, ap (λ y. times y (path ls f (get_or ls k root))) (eqb-true x k e), gone)
      go false e ih = omega arith

  path_inside : (f : ℕ) (l : Link) → Below (length ls) l → Inside (length ls) (path ls f l)
  unfolding path times
  path_inside zero l b x h = refl
  path_inside (suc f) root b x h = refl
  path_inside (suc f) dangling b x h = refl
  path_inside (suc f) (child k) b x h = omega (arith, hit_other x k (omega arith), path_inside f (get_or ls k root) (below_at (length ls) ls below k) x h)

  -- fewer links than programs
  pub depth-less : (k : ℕ) → k < length ls → depth ls (length ls) (get_or ls k root) < length ls
  unfolding path
  depth-less k h =
      omega (arith, at_most (length ls) (path ls (suc (length ls)) (child k)) (path_inside (suc (length ls)) (child k) h) (path-once (suc (length ls)) (child k) (omega arith)), path-length ls (length ls) (get_or ls k root))
