-- `program_chains::roots` meets its contract: the roots listed, and those from `i` on, are all. Assumes nothing.
use Prim.Native.Nat.{ℕ, ◌+◌, ◌≤◌, ◌<◌}
use mathlib.Core.Path.{◌≡◌, refl, sym, ap, ◌∙◌}
use mathlib.Core.List.{List, [], ◌∷◌, ◌++◌, append-nil}
use mathlib.Core.Bool.{Bool, true, false}
use lib.Dec.{eqb}
use native.Mathlib.Omega.{arith}
use native.Mathlib.Numerals.{add-one}
use lib.ListN.{length, get_or, drop, drop_of_length-le, length-append, set}
use lib.Seq.{drop-cons, append_snoc}
use borrow.Author.Tests.{eq-eqb, ne_eqb, eqb-true, eqb-false}
use Rattle.format.specs.Programs.{roots, roots_from}
use Rattle.program_chains.specs.Parents.{nobody, link_of, links_of, in_array}
use Rattle.program_chains.proofs.Arrays.{array-push}
use Rattle.program_chains.proofs.roots.Invariants.{Listed}
use Rattle.program_chains.proofs.roots.Goals as goal

module _ (ps : List ℕ) (i : ℕ) where
  one_more : i < length ps → get_or ps i 0 ≡ 4294967295 → roots_from i (links_of (drop i ps)) ≡ i ∷ roots_from (i + 1) (links_of (drop (i + 1) ps))
  unfolding roots_from links_of link_of nobody
  one_more h e = rw (drop-cons ps i 0 h, eq-eqb _ _ e) (ap (λ n. i ∷ roots_from (i + 1) (links_of (drop n ps))) (sym (add-one i)))

  no_more : i < length ps → (get_or ps i 0 ≡ 4294967295 → ⊥) → roots_from i (links_of (drop i ps)) ≡ roots_from (i + 1) (links_of (drop (i + 1) ps))
  unfolding roots_from links_of link_of nobody
  no_more h e = rw (drop-cons ps i 0 h, ne_eqb _ _ e) (ap (λ n. roots_from (i + 1) (links_of (drop n ps))) (sym (add-one i)))

  none_left : length ps ≤ i → roots_from i (links_of (drop i ps)) ≡ []
  unfolding roots_from links_of
  none_left h = rw drop_of_length-le refl

module _ (ps list : List ℕ) (count i : ℕ) (x : Listed ps list count i) where
  pushed : i < length ps → count < 1024 → get_or ps i 0 ≡ 4294967295 → Listed ps (set list count i) (count + 1) (i + 1)
  pushed h l e = (
    x.0 ++ i ∷ [],
    rw (x.1, ← x.2) (array-push x.0 i (omega (arith, x.2))),
    omega (arith, x.2, length-append x.0 (i ∷ [])),
    x.3 ∙ ap (λ r. x.0 ++ r) (one_more ps i h e) ∙ sym (append_snoc x.0 i _),
  )

  kept : i < length ps → (get_or ps i 0 ≡ 4294967295 → ⊥) → Listed ps list count (i + 1)
  kept h e = (x.0, x.1, x.2, x.3 ∙ ap (λ r. x.0 ++ r) (no_more ps i h e))

  all : length ps ≤ i → (list ≡ in_array (roots (links_of ps))) × (count ≡ length (roots (links_of ps)))
  all h =
      let e : roots (links_of ps) ≡ x.0 = x.3 ∙ ap (λ r. x.0 ++ r) (none_left ps i h) ∙ append-nil x.0 in
      (x.1 ∙ ap in_array (sym e), sym x.2 ∙ ap length (sym e))

pub loop-i-init : goal.loop-i-init
unfolding in_array roots
loop-i-init c = (omega arith, ([], refl, refl, refl))

-- what a turn leaves, by whether the program has a parent
module _ (ps list list' : List ℕ) (count count' i : ℕ) (small : i < length ps) (few : length ps ≤ 1024) (most : count ≤ i) (x : Listed ps list count i) where
  turned : (get_or ps i 0 ≡ 4294967295 → list' ≡ set list count i) → (get_or ps i 0 ≡ 4294967295 → count' ≡ count + 1)
      → ((get_or ps i 0 ≡ 4294967295 → ⊥) → list' ≡ list) → ((get_or ps i 0 ≡ 4294967295 → ⊥) → count' ≡ count)
      → (count' ≤ i + 1) × Listed ps list' count' (i + 1)
  turned more grown same left = go (eqb (get_or ps i 0) 4294967295) refl
    where
      go : (t : Bool) → eqb (get_or ps i 0) 4294967295 ≡ t → (count' ≤ i + 1) × Listed ps list' count' (i + 1)
      go true q =
          let e = eqb-true (get_or ps i 0) 4294967295 q in
          let n = grown e in
          (omega arith, rw (more e, n) (pushed ps list count i x small (omega arith) e))
      go false q =
          let e = eqb-false (get_or ps i 0) 4294967295 q in
          let n = left e in
          (omega arith, rw (same e, n) (kept ps list count i x small e))

pub loop-i-preserved : goal.loop-i-preserved
loop-i-preserved c =
    let l = c.loop-i in
    turned c.args.parents.now l.list _ l.count _ l.i (omega arith) (omega arith) l.invariant.0 l.invariant.1
    (λ e. grind arith) (λ e. grind arith) (λ e. grind arith) (λ e. grind arith)

pub returns : goal.returns
returns c =
    let a = c.args.parents.now in
    let l = c.loop-i in
    all a l.list l.count l.i l.invariant.1 (omega arith)
