-- Programs after others, each a root or a child of one of those: no PP dangles and none comes back to itself where none did before.
use Prim.Native.Nat.{ℕ, zero, suc, ◌+◌, ◌-◌, ◌≤◌, ◌<◌}
use mathlib.Core.Path.{◌≡◌, refl, ap, ◌∙◌}
use mathlib.Core.Bool.{true, false, ◌||◌}
use mathlib.Core.List.{List, [], ◌∷◌, ◌++◌}
use native.Mathlib.Omega.{arith}
use native.Mathlib.Nat.{zero-add}
use lib.ListN.{length, get_or, length-append, get_or-append}
use lib.Seq.{get_or-append-add}
use lib.Dec.{eqb, ltb}
use borrow.Author.Tests.{ne_eqb, ltb-true, ltb-false}
use Rattle.format.specs.Bytes.{any}
use Rattle.format.specs.Programs.{Link, root, dangling, child, links, is_dangling, reaches, loops_from, depth}
use Rattle.byte_slices.specs.Stands.{Each}
use Rattle.lists.proofs.Bools.{any_append, split}
use Rattle.lists.proofs.Pairs.{each_at}
use Rattle.program_chains.proofs.Paths.{Below, no_return, depth-less}
use Rattle.program_chains.specs.Listed.{named}
use Rattle.merge_laws.specs.Rewritten.{FollowsOld}

-- ---- nothing dangles

follows-linked : (n : ℕ) (more : List Link) → Each (FollowsOld n) more → any is_dangling more ≡ false
unfolding Each FollowsOld any is_dangling
follows-linked n [] h = refl
follows-linked n (root ∷ more) h = follows-linked n more h.1
follows-linked n (dangling ∷ more) h = absurd h.0
follows-linked n (child k ∷ more) h = follows-linked n more h.1

pub grown-linked : (ls more : List Link) → any is_dangling ls ≡ false → Each (FollowsOld (length ls)) more → any is_dangling (ls ++ more) ≡ false
grown-linked ls more e h = any_append is_dangling ls more ∙ rw (e, follows-linked (length ls) more h) refl

-- ---- none comes back to itself

loops-none : (all : List Link) (i : ℕ) (ls : List Link) → ((j : ℕ) → j < length ls → reaches all (i + j) (length all) (get_or ls j root) ≡ false) → loops_from all i ls ≡ false
unfolding loops_from
loops-none all i [] f = refl
loops-none all i (l ∷ ls) f =
    let here : reaches all i (length all) l ≡ false = ap (λ n. reaches all n (length all) l) (omega arith) ∙ f 0 (omega arith) in
    rw here (loops-none all (i + 1) ls (λ j h. ap (λ n. reaches all n (length all) (get_or ls j root)) (omega arith) ∙ f (suc j) (omega arith)))

-- where the steps are more than the links, more of them reach nothing else
reaches_more : (ls : List Link) (i f h : ℕ) (l : Link) → f ≤ h → depth ls f l < f → reaches ls i h l ≡ reaches ls i f l
unfolding reaches depth
reaches_more ls i zero h l g e = absurd (omega arith)
reaches_more ls i (suc f) zero l g e = absurd (omega arith)
reaches_more ls i (suc f) (suc h) root g e = refl
reaches_more ls i (suc f) (suc h) dangling g e = refl
reaches_more ls i (suc f) (suc h) (child k) g e = ap (λ t. eqb i k || t) (reaches_more ls i f h (get_or ls k root) (omega arith) (omega arith))

module _ (ls more : List Link) (below : (k : ℕ) → Below (length ls) (get_or ls k root)) where
  -- a walk from an old program stays among the old ones
  walk-old : (i f : ℕ) (l : Link) → Below (length ls) l → reaches (ls ++ more) i f l ≡ reaches ls i f l
  unfolding reaches
  walk-old i zero l b = refl
  walk-old i (suc f) root b = refl
  walk-old i (suc f) dangling b = refl
  walk-old i (suc f) (child k) b =
      ap (λ t. eqb i k || t) (ap (reaches (ls ++ more) i f) (get_or-append ls more root k b) ∙ walk-old i f (get_or ls k root) (below k))

  -- so it meets no new one
  walk-new : (i f : ℕ) (l : Link) → length ls ≤ i → Below (length ls) l → reaches ls i f l ≡ false
  unfolding reaches
  walk-new i zero l h b = refl
  walk-new i (suc f) root h b = refl
  walk-new i (suc f) dangling h b = refl
  walk-new i (suc f) (child k) h b = rw (ne_eqb i k (λ e. omega arith)) (walk-new i f (get_or ls k root) h (below k))

  module _ (acyclic : loops_from ls 0 ls ≡ false) (inside : (k : ℕ) → named k ls ≡ true → k < length ls) (follows : Each (FollowsOld (length ls)) more) where
    follows-below : (l : Link) → FollowsOld (length ls) l → Below (length ls) l
    unfolding FollowsOld
    follows-below root h = tt
    follows-below dangling h = absurd h
    follows-below (child k) h = h

    -- an old program
    old-once : (j : ℕ) → j < length ls → reaches (ls ++ more) j (length (ls ++ more)) (get_or (ls ++ more) j root) ≡ false
    old-once j h =
        ap (reaches (ls ++ more) j (length (ls ++ more))) (get_or-append ls more root j h) ∙ walk-old j (length (ls ++ more)) (get_or ls j root) (below j)
        ∙ reaches_more ls j (length ls) (length (ls ++ more)) (get_or ls j root) (omega (arith, length-append ls more)) (depth-less ls acyclic inside j h)
        ∙ no_return ls acyclic inside j

    -- a new one, `n` places after them
    new-once : (n : ℕ) → n < length more → reaches (ls ++ more) (length ls + n) (length (ls ++ more)) (get_or (ls ++ more) (length ls + n) root) ≡ false
    new-once n h =
        let b : Below (length ls) (get_or more n root) = follows-below (get_or more n root) (each_at (FollowsOld (length ls)) more n root follows h) in
        ap (reaches (ls ++ more) (length ls + n) (length (ls ++ more))) (get_or-append-add ls more n root)
        ∙ walk-old (length ls + n) (length (ls ++ more)) (get_or more n root) b ∙ walk-new (length ls + n) (length (ls ++ more)) (get_or more n root) (omega arith) b

    once : (j : ℕ) → j < length (ls ++ more) → reaches (ls ++ more) j (length (ls ++ more)) (get_or (ls ++ more) j root) ≡ false
    once j h =
        split (ltb j (length ls)) (λ t. old-once j (ltb-true j (length ls) t))
        (λ t.
        let f : length ls ≤ j = ltb-false j (length ls) t in
        let e : length ls + (j - length ls) ≡ j = omega arith in
        rw e at (new-once (j - length ls) (omega (arith, length-append ls more))))

    pub grown-acyclic : loops_from (ls ++ more) 0 (ls ++ more) ≡ false
    grown-acyclic =
        loops-none (ls ++ more) 0 (ls ++ more)
        (λ j h. ap (λ n. reaches (ls ++ more) n (length (ls ++ more)) (get_or (ls ++ more) j root)) (zero-add j) ∙ once j h)
