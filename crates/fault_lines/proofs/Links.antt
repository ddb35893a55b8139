-- A walk from parent to parent over numbers of parents, and what it says of a program.
use Prim.Native.Nat.{ℕ, zero, suc, ◌+◌, ◌-◌, ◌≤◌, ◌<◌}
use mathlib.Core.Path.{◌≡◌, refl, ap, ap₂, ◌∙◌}
use mathlib.Core.Bool.{Bool, true, false, ◌||◌, cond}
use mathlib.Core.List.{List, [], ◌∷◌, map}
use native.Mathlib.Omega.{arith}
use lib.ListN.{length, get_or, length-map}
use lib.Dec.{eqb, ltb}
use borrow.Author.Tests.{eq-eqb, ne_eqb, lt-ltb, le-ltb}
use Rattle.format.specs.Programs.{Link, root, dangling, child, is_dangling, reaches}
use Rattle.byte_slices.specs.Stands.{Each}
use Rattle.lists.proofs.Pairs.{each_at}
use Rattle.program_chains.proofs.Walks.{map_at}
use Rattle.program_chains.proofs.Paths.{Below}
use Rattle.program_parents.specs.Parents.{link_number}
use Rattle.fault_programs.specs.Plain.{one_if}
use Rattle.format.specs.Faults.{link_fault}
use Rattle.fault_lines.specs.Links.{link_in, links_in, Within, link_count, step_fault}

-- ---- one number

pub in-child : (p : ℕ) → p < 4294967294 → link_in p ≡ child p
unfolding link_in
in-child p h = rw (lt-ltb p 4294967294 h) refl

pub in-stranger : (p : ℕ) → p ≡ 4294967294 → link_in p ≡ dangling
unfolding link_in
in-stranger p e = ap link_in e

-- a number that is no program ends the walk
pub reaches_end : (ls : List Link) (i f p : ℕ) → 4294967294 ≤ p → reaches ls i f (link_in p) ≡ false
unfolding link_in reaches
reaches_end ls i zero p h = refl
reaches_end ls i (suc f) p h = rw (le-ltb p 4294967294 h) (go (eqb p 4294967294))
  where
    go : (b : Bool) → reaches ls i (suc f) (cond b dangling root) ≡ false
    go true = refl
    go false = refl

-- not a stranger does not dangle
pub in-linked : (p : ℕ) → (p ≡ 4294967294 → ⊥) → is_dangling (link_in p) ≡ false
unfolding link_in is_dangling
in-linked p h = rw (ne_eqb p 4294967294 h) (go (ltb p 4294967294))
  where
    go : (a : Bool) → is_dangling (cond a (child p) root) ≡ false
    go true = refl
    go false = refl

-- ---- one step

module _ (ps : List ℕ) where
  pub in-at : (k : ℕ) → k < length ps → get_or (links_in ps) k root ≡ link_in (get_or ps k 0)
  in-at k h = map_at link_in ps k 0 root h

  module _ (p f : ℕ) (small : p < 4294967294) (h : p < length ps) (z : 0 < f) where
    step : (i : ℕ) → reaches (links_in ps) i f (link_in p) ≡ (eqb i p || reaches (links_in ps) i (f - 1) (link_in (get_or ps p 0)))
    unfolding reaches
    step i = ap₂ (reaches (links_in ps) i) (let q : f ≡ suc (f - 1) = omega arith in q) (in-child p small) ∙ ap (λ l. eqb i p || reaches (links_in ps) i (f - 1) l) (in-at p h)

    pub reaches_here : (i : ℕ) → i ≡ p → reaches (links_in ps) i f (link_in p) ≡ true
    reaches_here i s = step i ∙ ap (λ t. t || reaches (links_in ps) i (f - 1) (link_in (get_or ps p 0))) (eq-eqb i p s)

    pub reaches-on : (i : ℕ) → (i ≡ p → ⊥) → reaches (links_in ps) i f (link_in p) ≡ reaches (links_in ps) i (f - 1) (link_in (get_or ps p 0))
    reaches-on i s = step i ∙ ap (λ t. t || reaches (links_in ps) i (f - 1) (link_in (get_or ps p 0))) (ne_eqb i p s)

  -- ---- the fault of a program

  module _ (i : ℕ) (h : i < length ps) where
    pub fault-stranger : get_or ps i 0 ≡ 4294967294 → link_fault (links_in ps) i ≡ 22
    unfolding link_fault is_dangling
    fault-stranger e = rw (in-at i h, in-stranger (get_or ps i 0) e) refl

    pub fault_walked : (get_or ps i 0 ≡ 4294967294 → ⊥) → (b : Bool) → reaches (links_in ps) i (length ps) (link_in (get_or ps i 0)) ≡ b → link_fault (links_in ps) i ≡ cond b 23 0
    unfolding link_fault
    fault_walked e b r = rw (in-at i h, in-linked (get_or ps i 0) e, length-map ps link_in, r) refl

-- ---- counting

pub one-by : (n m : ℕ) → n ≡ m → one_if n ≡ one_if m
one-by n m e = ap one_if e

pub count-more : (ks : List Link) (i m : ℕ) → 0 < m → link_count ks i m ≡ one_if (link_fault ks i) + link_count ks (i + 1) (m - 1)
unfolding link_count
count-more ks i zero h = absurd (omega arith)
count-more ks i (suc m) h = ap (λ k. one_if (link_fault ks i) + link_count ks (i + 1) k) (let z : m ≡ suc m - 1 = omega arith in z)

pub count_none : (ks : List Link) (i m : ℕ) → m ≤ 0 → link_count ks i m ≡ 0
unfolding link_count
count_none ks i zero h = refl
count_none ks i (suc m) h = absurd (omega arith)

-- ---- the fault of a line

module _ (ks : List Link) (i j : ℕ) where
  pub step-plain : (n : ℕ) → (n ≡ 0 → ⊥) → step_fault ks i j n ≡ n
  unfolding step_fault
  step-plain zero h = absurd (h refl)
  step-plain (suc n) h = refl

  pub step_other : (n : ℕ) → n ≡ 0 → j ≡ i → step_fault ks i j n ≡ 0
  unfolding step_fault
  step_other n z e = rw (z, eq-eqb j i e) refl

  pub step-program : (n : ℕ) → n ≡ 0 → (j ≡ i → ⊥) → step_fault ks i j n ≡ link_fault ks i
  unfolding step_fault
  step-program n z e = rw (z, ne_eqb j i e) refl

-- ---- the numbers of links say them

module _ (n : ℕ) (small : n ≤ 1024) where
  one_link : (l : Link) → Below n l → link_in (link_number l) ≡ l
  unfolding link_number link_in
  one_link root h = refl
  one_link dangling h = refl
  one_link (child k) h = rw (lt-ltb k 4294967294 (omega arith)) refl

  pub same-links : (ls : List Link) → Each (Below n) ls → links_in (map link_number ls) ≡ ls
  unfolding Each
  same-links [] h = refl
  same-links (l ∷ ls) h = ap₂ (λ x xs. x ∷ xs) (one_link l h.0) (same-links ls h.1)

  one-within : (l : Link) → Below n l → link_number l < 4294967294 → link_number l < n
  unfolding link_number
  one-within root h s = absurd (omega arith)
  one-within dangling h s = absurd (omega arith)
  one-within (child k) h s = h

  pub all-within : (ls : List Link) → length ls ≡ n → Each (Below n) ls → Within (map link_number ls)
  all-within ls m h k l s =
      let l' : k < length ls = omega (arith, length-map ls link_number) in
      let e = map_at link_number ls k root 0 l' in
      omega (arith, e, length-map ls link_number, one-within (get_or ls k root) (each_at (Below n) ls k root h l') (omega (arith, e)))
