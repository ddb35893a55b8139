-- Depths from parent to child, and cycles: a program comes back to itself exactly if some depth does not end before n. Assumes nothing.
use Prim.Native.Nat.{ℕ, zero, suc, ◌+◌, ◌-◌, ◌≤◌, ◌<◌}
use mathlib.Core.Path.{◌≡◌, refl, sym, ap, ap₂, ◌∙◌}
use mathlib.Core.Bool.{Bool, true, false, ◌||◌, false≢true}
use mathlib.Core.List.{List, [], ◌∷◌}
use native.Mathlib.Omega.{arith}
use native.Mathlib.Nat.{zero-add}
use lib.ListN.{length, get_or, length-map}
use lib.Dec.{eqb}
use borrow.Author.Tests.{eqb-true}
use Rattle.format.specs.Programs.{Link, root, dangling, child, reaches, loops_from, depth}
use Rattle.program_chains.specs.Parents.{link_of, links_of, are_parents}
use Rattle.program_chains.proofs.Walks.{within-at, link_at, link-none, depth-step, depth-root, depth_le}
use Rattle.program_chains.proofs.Paths.{depth-less}
use Rattle.program_chains.proofs.Bound.{within-below}
use Rattle.program_depths.specs.Depths.{deep}

-- ---- fuel

-- a walk that ends within `n` steps is the same with any number of steps that it needs
depth-any : (ls : List Link) (n f : ℕ) (l : Link) → depth ls n l < n → depth ls n l ≤ f → depth ls f l ≡ depth ls n l
unfolding depth
depth-any ls zero f l h e = absurd (omega arith)
depth-any ls (suc n) zero root h e = refl
depth-any ls (suc n) zero dangling h e = refl
depth-any ls (suc n) zero (child k) h e = absurd (omega arith)
depth-any ls (suc n) (suc f) root h e = refl
depth-any ls (suc n) (suc f) dangling h e = refl
depth-any ls (suc n) (suc f) (child k) h e = ap suc (depth-any ls n f (get_or ls k root) (omega arith) (omega arith))

-- with fewer steps than it needs it takes them all
depth-full : (ls : List Link) (n f : ℕ) (l : Link) → f ≤ depth ls n l → depth ls f l ≡ f
unfolding depth
depth-full ls n zero l h = refl
depth-full ls zero (suc f) l h = absurd (omega arith)
depth-full ls (suc n) (suc f) root h = absurd (omega arith)
depth-full ls (suc n) (suc f) dangling h = absurd (omega arith)
depth-full ls (suc n) (suc f) (child k) h = ap suc (depth-full ls n f (get_or ls k root) (omega arith))

-- ---- a program that comes back to itself is no end

module _ (ls : List Link) (i : ℕ) where
  comes : (g f : ℕ) (l : Link) → reaches ls i g l ≡ true → ((h : ℕ) → h < f → depth ls h (get_or ls i root) ≡ h) → depth ls f l ≡ f
  unfolding reaches depth
  comes g zero l e ih = refl
  comes zero (suc f) l e ih = absurd (false≢true e)
  comes (suc g) (suc f) root e ih = absurd (false≢true e)
  comes (suc g) (suc f) dangling e ih = absurd (false≢true e)
  comes (suc g) (suc f) (child k) e ih = go (eqb i k) refl e (λ r. comes g f (get_or ls k root) r (λ h l. ih h (omega arith)))
    where
      go : (t : Bool) → eqb i k ≡ t → t || reaches ls i g (get_or ls k root) ≡ true → (reaches ls i g (get_or ls k root) ≡ true → depth ls f (get_or ls k root) ≡ f)
          → suc (depth ls f (get_or ls k root)) ≡ suc f
      go true q r later = ap suc (ap (λ j. depth ls f (get_or ls j root)) (sym (eqb-true i k q)) ∙ ih f (omega arith))
      go false q r later = ap suc (later r)

  endless : (g : ℕ) → reaches ls i g (get_or ls i root) ≡ true → (f h : ℕ) → h < f → depth ls h (get_or ls i root) ≡ h
  endless g e zero h l = absurd (omega arith)
  endless g e (suc f) h l = comes g h (get_or ls i root) e (λ j m. endless g e f j (omega arith))

loops-none : (all : List Link) (i : ℕ) (ls : List Link) → ((j : ℕ) → j < length ls → reaches all (i + j) (length all) (get_or ls j root) ≡ false) → loops_from all i ls ≡ false
unfolding loops_from
loops-none all i [] h = refl
loops-none all i (l ∷ ls) h =
    let here : reaches all i (length all) l ≡ false = ap (λ n. reaches all n (length all) l) (omega arith) ∙ h 0 (omega arith) in
    rw here (loops-none all (i + 1) ls (λ j m. ap (λ n. reaches all n (length all) (get_or ls j root)) (omega arith) ∙ h (suc j) (omega arith)))

-- ---- over a list of parents

pub links-length : (ps : List ℕ) → length (links_of ps) ≡ length ps
unfolding links_of
links-length ps = length-map ps link_of

module _ (ps : List ℕ) (within : are_parents (length ps) ps ≡ true) where
  deep-at : (k : ℕ) → k < length ps → depth (links_of ps) (length (links_of ps)) (get_or (links_of ps) k root) ≡ deep ps k
  unfolding deep
  deep-at k h = ap₂ (depth (links_of ps)) (links-length ps) (link_at ps k h)

  pub deep-le : (k : ℕ) → deep ps k ≤ length ps
  unfolding deep
  deep-le k = depth_le (links_of ps) (length ps) (link_of (get_or ps k 0))

  -- a depth of n: there is a cycle
  pub deep-cycle : (k : ℕ) → k < length ps → deep ps k ≡ length ps → loops_from (links_of ps) 0 (links_of ps) ≡ true
  deep-cycle k h e = go (loops_from (links_of ps) 0 (links_of ps)) refl
    where
      go : (t : Bool) → loops_from (links_of ps) 0 (links_of ps) ≡ t → t ≡ true
      go true q = refl
      go false q =
          let n = links-length ps in
          let less = depth-less (links_of ps) q (λ j m. omega (arith, links-length ps, within-below (length ps) ps within j m)) k (omega arith) in
          absurd (omega (arith, less, deep-at k h))

  -- no depth of n: there is none
  pub deep-acyclic : ((k : ℕ) → k < length ps → deep ps k < length ps) → loops_from (links_of ps) 0 (links_of ps) ≡ false
  deep-acyclic less = loops-none (links_of ps) 0 (links_of ps) (λ j m. ap (λ n. reaches (links_of ps) n (length (links_of ps)) (get_or (links_of ps) j root)) (zero-add j) ∙ go j (omega (arith, links-length ps)) (reaches (links_of ps) j (length (links_of ps)) (get_or (links_of ps) j root)) refl)
    where
      go : (j : ℕ) → j < length ps → (t : Bool) → reaches (links_of ps) j (length (links_of ps)) (get_or (links_of ps) j root) ≡ t → t ≡ false
      go j h true q =
          absurd (omega (arith, less j h, deep-at j h, endless (links_of ps) j (length (links_of ps)) q (suc (length (links_of ps))) (length (links_of ps)) (omega arith), links-length ps))
      go j h false q = refl

  -- the depth of a parent is one less
  module _ (k : ℕ) (h : k < length ps) (some : 0 < deep ps k) (ends : deep ps k < length ps) where
    pub deep-child : get_or ps k 0 ≡ 4294967295 → ⊥
    unfolding deep
    deep-child e = omega (arith, ap (depth (links_of ps) (length ps)) (link-none (get_or ps k 0) e) ∙ depth-root (links_of ps) (length ps))

    pub deep-below : get_or ps k 0 < length ps
    deep-below = within-at (length ps) ps k within h deep-child

    pub deep-up : deep ps k ≡ suc (deep ps (get_or ps k 0))
    unfolding deep
    deep-up =
        let s = depth-step ps (get_or ps k 0) (length ps) deep-child deep-below (omega arith) in
        s ∙ ap suc (depth_same (links_of ps) (length ps) (link_of (get_or ps (get_or ps k 0) 0)) (omega (arith, s)))
      where
        depth_same : (ls : List Link) (n : ℕ) (l : Link) → suc (depth ls (n - 1) l) < n → depth ls (n - 1) l ≡ depth ls n l
        depth_same ls n l q = sym (depth-any ls (n - 1) n l (omega arith) (omega arith))

  -- from a parent whose depth is known, with `f` steps left
  module _ (k f : ℕ) (here : k < length ps) (no : k ≡ 4294967295 → ⊥) (some : 0 < f) (ends : deep ps k < length ps) where
    pub known-fits : deep ps k < f → depth (links_of ps) f (link_of k) ≡ suc (deep ps k)
    unfolding deep
    known-fits q = depth-step ps k f no here some ∙ ap suc (depth-any (links_of ps) (length ps) (f - 1) (link_of (get_or ps k 0)) ends (omega arith))

    pub known-full : f ≤ deep ps k → depth (links_of ps) f (link_of k) ≡ f
    unfolding deep
    known-full q = depth-step ps k f no here some ∙ ap suc (depth-full (links_of ps) (length ps) (f - 1) (link_of (get_or ps k 0)) (omega arith)) ∙ omega arith
