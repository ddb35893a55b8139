-- Without a cycle, a walk from a program is that program and the walk from its parent. Assumes nothing.
use Prim.Native.Nat.{ℕ, zero, suc, ◌≤◌, ◌<◌}
use mathlib.Core.Path.{◌≡◌, refl, ap}
use mathlib.Core.Bool.{false, true, ◌||◌}
use mathlib.Core.List.{List}
use native.Mathlib.Omega.{arith}
use lib.ListN.{length, get_or}
use lib.Dec.{eqb}
use Rattle.format.specs.Programs.{Link, root, dangling, child, reaches, loops_from, depth}
use Rattle.program_chains.specs.Listed.{named}
use Rattle.program_chains.proofs.Bound.{depth-next}
use Rattle.program_chains.proofs.Paths.{depth-less}

-- a walk that ends in time is the same with one step less
reach-same : (ls : List Link) (i f : ℕ) (l : Link) → depth ls (suc f) l ≤ f → reaches ls i f l ≡ reaches ls i (suc f) l
unfolding depth reaches
reach-same ls i zero root h = refl
reach-same ls i zero dangling h = refl
reach-same ls i zero (child k) h = absurd (omega arith)
reach-same ls i (suc f) root h = refl
reach-same ls i (suc f) dangling h = refl
reach-same ls i (suc f) (child k) h = ap (λ t. eqb i k || t) (reach-same ls i f (get_or ls k root) (omega arith))

reach-next : (ls : List Link) (n i k : ℕ) → depth ls n (get_or ls k root) < n → reaches ls i n (child k) ≡ (eqb i k || reaches ls i n (get_or ls k root))
unfolding reaches
reach-next ls zero i k h = absurd (omega arith)
reach-next ls (suc f) i k h = ap (λ t. eqb i k || t) (reach-same ls i f (get_or ls k root) (omega arith))

-- nothing is reached from a PP that dangles
pub reaches-dangling : (ls : List Link) (i f : ℕ) → reaches ls i f dangling ≡ false
unfolding reaches
reaches-dangling ls i zero = refl
reaches-dangling ls i (suc f) = refl

module _ (ls : List Link) (acyclic : loops_from ls 0 ls ≡ false) (below : (k : ℕ) → named k ls ≡ true → k < length ls) (k : ℕ) (h : k < length ls) where
  pub reach_step : (i : ℕ) → reaches ls i (length ls) (child k) ≡ (eqb i k || reaches ls i (length ls) (get_or ls k root))
  reach_step i = reach-next ls (length ls) i k (depth-less ls acyclic below k h)

  pub depth_falls : depth ls (length ls) (child k) ≡ suc (depth ls (length ls) (get_or ls k root))
  depth_falls = depth-next ls (length ls) k (depth-less ls acyclic below k h)
