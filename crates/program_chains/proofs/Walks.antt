-- A walk from parent to parent over a list of parents: each step of the definitions, by the numbers. Assumes nothing.
use Prim.Native.Nat.{ℕ, zero, suc, ◌-◌, ◌≤◌, ◌<◌}
use mathlib.Core.Path.{◌≡◌, refl, ap, ap₂, ◌∙◌}
use mathlib.Core.Bool.{true, false, ◌||◌}
use mathlib.Core.List.{List, [], ◌∷◌, map}
use native.Mathlib.Omega.{arith}
use lib.ListN.{length, get_or}
use lib.Dec.{eqb, ltb}
use borrow.Author.Tests.{eq-eqb, ne_eqb, ltb-true}
use Rattle.format.specs.Bytes.{all}
use Rattle.format.specs.Programs.{Link, root, dangling, child, reaches, depth}
use Rattle.lists.proofs.Bools.{both_true}
use Rattle.program_chains.specs.Parents.{nobody, link_of, links_of, are_parents}

pub link-none : (p : ℕ) → p ≡ 4294967295 → link_of p ≡ root
unfolding link_of nobody
link-none p e = rw (eq-eqb _ _ e) refl

pub link-some : (p : ℕ) → (p ≡ 4294967295 → ⊥) → link_of p ≡ child p
unfolding link_of nobody
link-some p e = rw (ne_eqb _ _ e) refl

-- what is at a place of a mapped list
pub map_at : {A B : Type 0} (f : A → B) (l : List A) (k : ℕ) (d : A) (e : B) → k < length l → get_or (map f l) k e ≡ f (get_or l k d)
map_at f [] k d e h = absurd (omega arith)
map_at f (x ∷ l) zero d e h = refl
map_at f (x ∷ l) (suc k) d e h = map_at f l k d e (omega arith)

pub link_at : (ps : List ℕ) (k : ℕ) → k < length ps → get_or (links_of ps) k root ≡ link_of (get_or ps k 0)
unfolding links_of
link_at ps k h = map_at link_of ps k 0 root h

-- each parent, if there is one, is below `n`
pub within-at : (n : ℕ) (ps : List ℕ) (k : ℕ) → are_parents n ps ≡ true → k < length ps → (get_or ps k 0 ≡ 4294967295 → ⊥) → get_or ps k 0 < n
unfolding are_parents nobody all
within-at n [] k w h e = absurd (omega arith)
within-at n (p ∷ ps) zero w h e = ltb-true p n (rw (ne_eqb _ _ e) at (both_true (eqb p 4294967295 || ltb p n) (all (λ q. eqb q nobody || ltb q n) ps) w).0)
within-at n (p ∷ ps) (suc k) w h e = within-at n ps k (both_true (eqb p 4294967295 || ltb p n) (all (λ q. eqb q nobody || ltb q n) ps) w).1 (omega arith) e

-- one step, with `f` steps left
module _ (ps : List ℕ) (p f : ℕ) (e : p ≡ 4294967295 → ⊥) (h : p < length ps) (z : 0 < f) where
  fuel : f ≡ suc (f - 1)
  fuel = omega arith

  reaches_step : (i : ℕ) → reaches (links_of ps) i f (link_of p) ≡ (eqb i p || reaches (links_of ps) i (f - 1) (link_of (get_or ps p 0)))
  unfolding reaches
  reaches_step i = ap₂ (reaches (links_of ps) i) fuel (link-some p e) ∙ ap (λ l. eqb i p || reaches (links_of ps) i (f - 1) l) (link_at ps p h)

  pub reaches_here : (i : ℕ) → i ≡ p → reaches (links_of ps) i f (link_of p) ≡ true
  reaches_here i s = reaches_step i ∙ ap (λ t. t || reaches (links_of ps) i (f - 1) (link_of (get_or ps p 0))) (eq-eqb i p s)

  pub reaches-on : (i : ℕ) → (i ≡ p → ⊥) → reaches (links_of ps) i f (link_of p) ≡ reaches (links_of ps) i (f - 1) (link_of (get_or ps p 0))
  reaches-on i s = reaches_step i ∙ ap (λ t. t || reaches (links_of ps) i (f - 1) (link_of (get_or ps p 0))) (ne_eqb i p s)

  pub depth-step : depth (links_of ps) f (link_of p) ≡ suc (depth (links_of ps) (f - 1) (link_of (get_or ps p 0)))
  unfolding depth
  depth-step = ap₂ (depth (links_of ps)) fuel (link-some p e) ∙ ap (λ l. suc (depth (links_of ps) (f - 1) l)) (link_at ps p h)

-- no step from a program without parent
pub reaches-root : (ls : List Link) (i f : ℕ) → reaches ls i f root ≡ false
unfolding reaches
reaches-root ls i zero = refl
reaches-root ls i (suc f) = refl

pub depth-root : (ls : List Link) (f : ℕ) → depth ls f root ≡ 0
unfolding depth
depth-root ls zero = refl
depth-root ls (suc f) = refl

pub depth-dangling : (ls : List Link) (f : ℕ) → depth ls f dangling ≡ 0
unfolding depth
depth-dangling ls zero = refl
depth-dangling ls (suc f) = refl

-- no step where none is left
pub reaches-none : (ls : List Link) (i f : ℕ) (l : Link) → f ≤ 0 → reaches ls i f l ≡ false
unfolding reaches
reaches-none ls i zero l h = refl
reaches-none ls i (suc f) l h = absurd (omega arith)

pub depth-none : (ls : List Link) (f : ℕ) (l : Link) → f ≤ 0 → depth ls f l ≡ 0
unfolding depth
depth-none ls zero l h = refl
depth-none ls (suc f) l h = absurd (omega arith)

-- as many links as steps, at most
pub depth_le : (ls : List Link) (f : ℕ) (l : Link) → depth ls f l ≤ f
unfolding depth
depth_le ls zero l = omega arith
depth_le ls (suc f) root = omega arith
depth_le ls (suc f) dangling = omega arith
depth_le ls (suc f) (child k) = omega (arith, depth_le ls f (get_or ls k root))
