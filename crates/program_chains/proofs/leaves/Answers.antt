-- `program_chains::leaves` meets its contract: what is listed has no number twice, and the rest of the programs makes of it the leaves.
-- Assumes nothing.
use Prim.Native.Nat.{ℕ, ◌+◌, ◌-◌, ◌≤◌, ◌<◌}
use mathlib.Core.Path.{◌≡◌, refl, sym, ap, subst, ◌∙◌}
use mathlib.Core.List.{List}
use mathlib.Core.Bool.{Bool, true, false}
use mathlib.Core.Logic.{◌⊎◌, inl, inr}
use native.Mathlib.Omega.{arith}
use native.Mathlib.Numerals.{add-one}
use lib.ListN.{length, get_or, set, length-set, take, drop, drop_of_length-le, replicate, length-map}
use lib.Seq.{drop-cons, take_at}
use lib.Dec.{eqb, ltb}
use borrow.Author.Tests.{le-ltb, eqb-true, eqb-false, ltb-true, ltb-false}
use Rattle.format.specs.Programs.{leaves, leaves_from, numbers_from, swap_remove}
use Rattle.program_chains.specs.Parents.{link_of, links_of, in_array, index_in, HasPlaces}
use Rattle.program_chains.proofs.Arrays.{array-length, array_at}
use Rattle.program_chains.proofs.Leaf.{counting-length, counting-once, swap-keeps}
use Rattle.program_chains.proofs.Places.{counting-places, swap_places}
use Rattle.program_chains.proofs.Swaps.{place-any, array-swap, swap-shorter}
use Rattle.program_chains.proofs.Times.{swap-none}
use Rattle.program_chains.proofs.Walks.{link-none, link-some, within-at}
use Rattle.program_chains.proofs.leaves.Invariants.{Listed}
use Rattle.program_chains.proofs.leaves.Goals as goal
use Rattle.program_chains.proofs.leaves.Goals.{Then-at-count}

module _ (ps : List ℕ) (i : ℕ) (xs : List ℕ) where
  without : i < length ps → get_or ps i 0 ≡ 4294967295 → leaves_from xs (links_of (drop i ps)) ≡ leaves_from xs (links_of (drop (i + 1) ps))
  unfolding leaves_from links_of
  without h e = rw (drop-cons ps i 0 h, link-none _ e, add-one i) refl

  with-parent : i < length ps → (get_or ps i 0 ≡ 4294967295 → ⊥) → leaves_from xs (links_of (drop i ps)) ≡ leaves_from (swap_remove (get_or ps i 0) xs) (links_of (drop (i + 1) ps))
  unfolding leaves_from links_of
  with-parent h e = rw (drop-cons ps i 0 h, link-some _ e, add-one i) refl

  none_left : length ps ≤ i → leaves_from xs (links_of (drop i ps)) ≡ xs
  unfolding leaves_from links_of
  none_left h = rw drop_of_length-le refl

whole : (ps : List ℕ) → leaves (links_of ps) ≡ leaves_from (numbers_from 0 (length ps)) (links_of ps)
unfolding leaves links_of
whole ps = ap (λ n. leaves_from (numbers_from 0 n) (links_of ps)) (length-map ps link_of)

module _ (ps list places : List ℕ) (count i : ℕ) (x : Listed ps list places count i) where
  lent : take count list ≡ x.0
  unfolding in_array
  lent = rw x.1 (take_at x.0 (replicate (1024 - length x.0) 0) count x.2)

  fits : count ≤ 1024 → count ≤ length list
  fits h = omega (arith, ap length x.1, array-length x.0 (omega (arith, x.2)), x.2)

  -- each of them has its place
  lent-places : HasPlaces places (take count list)
  lent-places = subst (HasPlaces places) (sym lent) x.5

  -- the last one, and that it is a place in the array
  last-is : 0 < count → get_or list (count - 1) 0 ≡ get_or x.0 (count - 1) 0
  last-is h = ap (λ l. get_or l (count - 1) 0) x.1 ∙ array_at x.0 (count - 1) (omega (arith, x.2))

  last-below : 0 < count → get_or list (count - 1) 0 < 1024
  last-below h = subst (λ n. n < 1024) (sym (last-is h)) (x.5 (count - 1) (omega (arith, x.2))).0

  skipped : i < length ps → get_or ps i 0 ≡ 4294967295 → Listed ps list places count (i + 1)
  skipped h e = (x.0, x.1, x.2, x.3, x.4 ∙ without ps i x.0 h e, x.5)

  all : length ps ≤ i → (list ≡ in_array (leaves (links_of ps))) × (count ≡ length (leaves (links_of ps)))
  all h =
      let e : leaves (links_of ps) ≡ x.0 = x.4 ∙ none_left ps i x.0 h in
      (x.1 ∙ ap in_array (sym e), sym x.2 ∙ ap length (sym e))

  -- a parent `k`, and the place that was found
  module _ (k at : ℕ) (h : i < length ps) (e : k ≡ 4294967295 → ⊥) (p : k ≡ get_or ps i 0) (f : at ≡ index_in k (take count list)) where
    found : at ≡ index_in k x.0
    found = f ∙ ap (index_in k) lent

    rest : leaves (links_of ps) ≡ leaves_from (swap_remove k x.0) (links_of (drop (i + 1) ps))
    rest = x.4 ∙ with-parent ps i x.0 h (λ q. e (p ∙ q)) ∙ ap (λ y. leaves_from (swap_remove y x.0) (links_of (drop (i + 1) ps))) (sym p)

    absent : count ≤ at → Listed ps list places count (i + 1)
    absent g =
        let none = swap-none k x.0 (place-any k x.0 ∙ le-ltb (index_in k x.0) (length x.0) (omega (arith, found, x.2))) in
        (x.0, x.1, x.2, x.3, rest ∙ ap (λ l. leaves_from l (links_of (drop (i + 1) ps))) none, x.5)

    swapped : at < count → count ≤ 1024 → length places ≡ 1024
        → Listed ps (set (set list at (get_or list (count - 1) 0)) (count - 1) 0) (set places (get_or list (count - 1) 0) at) (count - 1) (i + 1)
    swapped g b sized =
        let there : index_in k x.0 < length x.0 = omega (arith, found, x.2) in (
          swap_remove k x.0,
          rw (x.1, found) (array-swap k (count - 1) x.0 (x.3 k) there (omega (arith, x.2)) (omega (arith, x.2))),
          swap-shorter k x.0 (x.3 k) there ∙ ap (λ n. n - 1) x.2,
          swap-keeps k x.0 x.3,
          rest,
          rw (last-is (omega arith), found) (swap_places k (count - 1) x.0 places (x.3 k) there (omega (arith, x.2)) sized x.5),
        )

pub loop-k-init : goal.loop-k-init
loop-k-init c =
    let ps = c.args.parents.now in
    let few = c.requires.parents_len_bound in
    let n = length ps in
    let there = c.counting-places.ensures in (
      omega arith,
      ap length there ∙ array-length (numbers_from 0 n) (omega (arith, counting-length 0 n)),
      (
        numbers_from 0 n,
        c.counting-list.ensures,
        counting-length 0 n,
        counting-once n,
        whole ps,
        subst (λ places. HasPlaces places (numbers_from 0 n)) (sym there) (counting-places n few),
      ),
    )

pub slice_bounds-list-end : goal.slice_bounds-list-end
slice_bounds-list-end c =
    let l = c.loop-k in
    let a = c.args.parents.now in
    fits a l.list l.places l.count l.k-index l.invariant.2 (omega arith)

pub slice_bounds-place-end : goal.slice_bounds-place-end
slice_bounds-place-end c =
    let l = c.loop-k in
    let a = c.args.parents.now in
    sym (ap length (lent a l.list l.places l.count l.k-index l.invariant.2) ∙ l.invariant.2.2)

pub place-at-requires : goal.place-at-requires
place-at-requires c =
    let l = c.loop-k in
    let a = c.args.parents.now in
    let below = within-at (length a) a l.k-index c.requires.parents_value (omega arith) c.if-k.true in record {
      has_places = lent-places a l.list l.places l.count l.k-index l.invariant.2;
      x_bound = omega (arith, below, c.requires.parents_len_bound);
    }

-- the last of the list
last_fits : (c : Then-at-count) → let l = c.loop-k in get_or l.list (l.count - 1) 0 < 1024
last_fits c =
    let l = c.loop-k in
    let a = c.args.parents.now in
    last-below a l.list l.places l.count l.k-index l.invariant.2 (omega arith)

pub overflow_cast-places-then-at-count : goal.overflow_cast-places-then-at-count
overflow_cast-places-then-at-count c = omega (arith, last_fits c)

pub offset_bounds-places-last : goal.offset_bounds-places-last
offset_bounds-places-last c = omega (arith, last_fits c)

pub bounds-places-last : goal.bounds-places-last
bounds-places-last c = last_fits c

-- what a turn leaves, by whether the program has a parent `k`, and whether that is listed: `at` is its place
module _ (ps list list' places places' : List ℕ) (count count' i k at : ℕ) (small : i < length ps) (few : count ≤ length ps) (short : length ps ≤ 1024)
    (sized : length places ≡ 1024) (x : Listed ps list places count i) (p : k ≡ get_or ps i 0) (f : at ≡ index_in k (take count list)) where
  turned : ((k ≡ 4294967295 → ⊥) → at < count → list' ≡ set (set list at (get_or list (count - 1) 0)) (count - 1) 0)
      → ((k ≡ 4294967295 → ⊥) → at < count → places' ≡ set places (get_or list (count - 1) 0) at)
      → ((k ≡ 4294967295 → ⊥) → at < count → count' ≡ count - 1)
      → (k ≡ 4294967295 ⊎ count ≤ at → list' ≡ list) → (k ≡ 4294967295 ⊎ count ≤ at → places' ≡ places) → (k ≡ 4294967295 ⊎ count ≤ at → count' ≡ count)
      → (count' ≤ length ps) × (length places' ≡ 1024) × Listed ps list' places' count' (i + 1)
  turned l₁ p₁ c₁ l₂ p₂ c₂ = go (eqb k 4294967295) refl (ltb at count) refl
    where
      go : (t : Bool) → eqb k 4294967295 ≡ t → (u : Bool) → ltb at count ≡ u
          → (count' ≤ length ps) × (length places' ≡ 1024) × Listed ps list' places' count' (i + 1)
      go true q u r =
          let e = eqb-true k 4294967295 q in
          let n = c₂ (inl e) in
          (omega arith, rw (p₂ (inl e)) sized, rw (l₂ (inl e), p₂ (inl e), n) (skipped ps list places count i x small (sym p ∙ e)))
      go false q true r =
          let e = eqb-false k 4294967295 q in
          let g = ltb-true at count r in
          let n = c₁ e g in (
            omega arith,
            rw (p₁ e g) (length-set places (get_or list (count - 1) 0) at ∙ sized),
            rw (l₁ e g, p₁ e g, n) (swapped ps list places count i x k at small e p f g (omega arith) sized),
          )
      go false q false r =
          let e = eqb-false k 4294967295 q in
          let g = ltb-false at count r in
          let n = c₂ (inr g) in
          (omega arith, rw (p₂ (inr g)) sized, rw (l₂ (inr g), p₂ (inr g), n) (absent ps list places count i x k at small e p f g))

pub loop-k-preserved : goal.loop-k-preserved
loop-k-preserved c =
    let l = c.loop-k in
    let a = c.args.parents.now in
    let k = get_or a l.k-index 0 in
    turned a l.list _ l.places _ l.count _ l.k-index k (index_in k (take l.count l.list))
    (omega arith) l.invariant.0 c.requires.parents_len_bound l.invariant.1 l.invariant.2 refl refl
    (λ e g. grind arith) (λ e g. grind arith) (λ e g. grind arith)
    (λ e. grind arith) (λ e. grind arith) (λ e. grind arith)

pub returns : goal.returns
returns c =
    let l = c.loop-k in
    all c.args.parents.now l.list l.places l.count l.k-index l.invariant.2 (omega arith)
