-- Programs without a cycle have a leaf: a child is one link deeper than its parent, and no program is deeper than there are programs.
use Prim.Native.Nat.{ℕ, zero, suc, ◌≤◌, ◌<◌}
use mathlib.Core.Path.{◌≡◌, refl, sym, ap, ◌∙◌}
use mathlib.Core.Bool.{Bool, true, false, not, ◌&&◌, ◌||◌, false≢true}
use mathlib.Core.List.{List, [], ◌∷◌}
use native.Mathlib.Omega.{arith}
use lib.ListN.{length, get_or}
use lib.Dec.{eqb, ltb}
use borrow.Author.Tests.{eqb-true, lt-ltb}
use Rattle.format.specs.Bytes.{any}
use Rattle.format.specs.Programs.{Link, root, dangling, child, loops_from, depth, leaves}
use Rattle.program_chains.specs.Listed.{named}
use Rattle.program_chains.proofs.Leaf.{leaves-exactly}
use Rattle.program_chains.proofs.Paths.{depth-less}

-- a program that is a parent is the parent of some program
pub named-at : (k : ℕ) (ls : List Link) → named k ls ≡ true → (j : ℕ) × (j < length ls) × (get_or ls j root ≡ child k)
unfolding named
named-at k [] e = absurd (false≢true e)
named-at k (root ∷ ls) e = let r = named-at k ls e in (suc r.0, omega (arith, r.1), r.2)
named-at k (dangling ∷ ls) e = let r = named-at k ls e in (suc r.0, omega (arith, r.1), r.2)
named-at k (child i ∷ ls) e = go (eqb k i) refl e (named-at k ls)
  where
    go : (t : Bool) → eqb k i ≡ t → t || named k ls ≡ true → (named k ls ≡ true → (j : ℕ) × (j < length ls) × (get_or ls j root ≡ child k))
        → (j : ℕ) × (j < suc (length ls)) × (get_or (child i ∷ ls) j root ≡ child k)
    go true q h f = (0, omega arith, ap child (sym (eqb-true k i q)))
    go false q h f = let r = f h in (suc r.0, omega (arith, r.1), r.2)

-- one step fewer loses a link only where the links are as many as the steps
depth-fewer : (ls : List Link) (f m : ℕ) (l : Link) → m ≤ f → m ≤ depth ls (suc f) l → m ≤ depth ls f l
unfolding depth
depth-fewer ls zero m l h e = omega arith
depth-fewer ls (suc f) m root h e = e
depth-fewer ls (suc f) m dangling h e = e
depth-fewer ls (suc f) zero (child k) h e = omega arith
depth-fewer ls (suc f) (suc m) (child k) h e = let r = depth-fewer ls f m (get_or ls k root) (omega arith) (omega arith) in omega (arith, r)

-- the parent of a program is one link above it
deeper : (ls : List Link) (n m k : ℕ) → m < n → m ≤ depth ls n (get_or ls k root) → suc m ≤ depth ls n (child k)
unfolding depth
deeper ls zero m k h e = absurd (omega arith)
deeper ls (suc n) m k h e = let r = depth-fewer ls n m (get_or ls k root) (omega arith) e in omega (arith, r)

module _ (ls : List Link) (acyclic : loops_from ls 0 ls ≡ false) (below : (k : ℕ) → named k ls ≡ true → k < length ls) (some : 0 < length ls) where
  -- if every program were a parent, there would be one at any depth
  deep : ((k : ℕ) → k < length ls → named k ls ≡ true) → (m : ℕ) → (k : ℕ) × (k < length ls) × (m ≤ depth ls (length ls) (get_or ls k root))
  deep parents zero = (0, some, omega arith)
  deep parents (suc m) =
      let r = deep parents m in
      let c = named-at r.0 ls (parents r.0 r.1) in
      let d = deeper ls (length ls) m r.0 (omega (arith, r.2, depth-less ls acyclic below r.0 r.1)) r.2 in
      (c.0, c.1, rw c.2 d)

  childless : ((k : ℕ) → k < length ls → named k ls ≡ true) → ⊥
  childless parents = let r = deep parents (length ls) in omega (arith, r.2, depth-less ls acyclic below r.0 r.1)

  pub leaves-some : 0 < length (leaves ls)
  unfolding any
  leaves-some = go (leaves ls) refl
    where
      is-parent : (k : ℕ) (t : Bool) → k < length ls → false ≡ (ltb k (length ls) && not t) → t ≡ true
      is-parent k true h e = refl
      is-parent k false h e = absurd (false≢true (e ∙ ap (λ b. b && true) (lt-ltb k (length ls) h)))

      go : (xs : List ℕ) → leaves ls ≡ xs → 0 < length xs
      go [] e = absurd (childless (λ k h. is-parent k (named k ls) h (ap (any (eqb k)) (sym e) ∙ leaves-exactly ls k)))
      go (x ∷ xs) e = omega arith
