-- Hops without a cycle: for each program as many programs have fewer links as it has links, so the sum is at most n(n-1)/2.
-- Assumes nothing.
use Prim.Native.Nat.{ℕ, zero, suc, ◌+◌, ◌-◌, ◌*◌, ◌≤◌, ◌<◌}
use mathlib.Core.Path.{◌≡◌, refl, ap, ◌∙◌}
use mathlib.Core.Bool.{Bool, true, false, cond, ◌||◌, false≢true}
use mathlib.Core.List.{List, [], ◌∷◌, map}
use native.Mathlib.Omega.{arith}
use native.Mathlib.Nat.{mul-suc}
use native.Mathlib.Numerals.{sub-one}
use lib.ListN.{length, get_or, length-map}
use lib.Dec.{eqb, ltb}
use borrow.Author.Tests.{eqb-true, ltb-true}
use Rattle.format.specs.Bytes.{all}
use Rattle.format.specs.Programs.{Link, root, dangling, child, loops_from, depth, depths, hops}
use Rattle.program_chains.specs.Listed.{named}
use Rattle.program_chains.specs.Parents.{nobody, link_of, links_of, are_parents}
use Rattle.lists.proofs.Bools.{both_true}
use Rattle.program_chains.proofs.Pairs.{under, unders, pairs, under_next}
use Rattle.program_chains.proofs.Paths.{Below, below_at, depth-less}
use Rattle.program_chains.proofs.Walks.{map_at, depth-root, depth-dangling}

-- a walk that ends in time is the same with one step less
pub depth_same : (ls : List Link) (f : ℕ) (l : Link) → depth ls (suc f) l ≤ f → depth ls f l ≡ depth ls (suc f) l
unfolding depth
depth_same ls zero root h = refl
depth_same ls zero dangling h = refl
depth_same ls zero (child k) h = absurd (omega arith)
depth_same ls (suc f) root h = refl
depth_same ls (suc f) dangling h = refl
depth_same ls (suc f) (child k) h = ap suc (depth_same ls f (get_or ls k root) (omega arith))

pub depth-next : (ls : List Link) (n k : ℕ) → depth ls n (get_or ls k root) < n → depth ls n (child k) ≡ suc (depth ls n (get_or ls k root))
unfolding depth
depth-next ls zero k h = absurd (omega arith)
depth-next ls (suc f) k h = ap suc (depth_same ls f (get_or ls k root) (omega arith))

module _ (ls : List Link) (acyclic : loops_from ls 0 ls ≡ false) (below : (k : ℕ) → named k ls ≡ true → k < length ls) where
  abbrev far : Link → ℕ
  far l = depth ls (length ls) l

  -- a program with `d` links has, for each smaller number, a program with that many
  ranks : (d : ℕ) (l : Link) → Below (length ls) l → far l ≡ d → d ≤ under d (map far ls)
  ranks zero l b e = omega arith
  ranks (suc d) root b e = absurd (omega (arith, depth-root ls (length ls)))
  ranks (suc d) dangling b e = absurd (omega (arith, depth-dangling ls (length ls)))
  ranks (suc d) (child k) b e =
      let up : far (get_or ls k root) ≡ d = omega (arith, depth-next ls (length ls) k (depth-less ls acyclic below k b)) in
      omega (arith, ranks d (get_or ls k root) (below_at (length ls) ls below k) up, under_next d k (map far ls) (omega (arith, length-map ls far)) (map_at far ls k root 0 b ∙ up))

  sums : (ms : List Link) → ((j : ℕ) → Below (length ls) (get_or ms j root)) → depths ls ms ≤ unders (map far ms) (map far ls)
  unfolding depths unders
  sums [] b = omega arith
  sums (m ∷ ms) b = omega (arith, ranks (far m) m (b 0) refl, sums ms (λ j. b (suc j)))

  -- twice the hops, and n, are at most n times n
  pub hops-square : 2 * hops ls + length ls ≤ length ls * length ls
  unfolding hops
  hops-square = omega (arith, sums ls (below_at (length ls) ls below), rw (length-map ls far) at (pairs (map far ls)))

  -- hops are at most n(n-1)/2
  pub hops-bound : 2 * hops ls ≤ length ls * (length ls - 1)
  hops-bound = less_one (length ls) (2 * hops ls) hops-square
    where
      less_one : (n h : ℕ) → h + n ≤ n * n → h ≤ n * (n - 1)
      less_one zero h e = omega arith
      less_one (suc n) h e = rw (sub-one (suc n)) (omega (arith, mul-suc (suc n) n))

-- the parents of a list that is within `n` are below `n`
pub within-below : (n : ℕ) (ps : List ℕ) → are_parents n ps ≡ true → (k : ℕ) → named k (links_of ps) ≡ true → k < n
unfolding are_parents nobody all link_of links_of named
within-below n [] w k e = absurd (false≢true e)
within-below n (p ∷ ps) w k e =
    let both = both_true (eqb p 4294967295 || ltb p n) (all (λ q. eqb q nobody || ltb q n) ps) w in
    go (eqb p 4294967295) both.0 e (within-below n ps both.1 k)
  where
    here : (t : Bool) → eqb k p ≡ t → p < n → t || named k (links_of ps) ≡ true → (named k (links_of ps) ≡ true → k < n) → k < n
    here true s h f ih = omega (arith, eqb-true k p s)
    here false s h f ih = ih f

    go : (t : Bool) → t || ltb p n ≡ true → named k (cond t root (child p) ∷ links_of ps) ≡ true → (named k (links_of ps) ≡ true → k < n) → k < n
    go true h f ih = ih f
    go false h f ih = here (eqb k p) refl (ltb-true p n h) f ih
