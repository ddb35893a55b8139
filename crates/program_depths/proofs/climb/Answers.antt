-- `program_depths::climb` meets its contract: the steps taken, and those that are to come from `at`, are all. Assumes nothing.
use Prim.Native.Nat.{ℕ, ◌+◌, ◌-◌, ◌<◌, min}
use mathlib.Core.Bool.{Bool, true, false}
use mathlib.Core.List.{List}
use borrow.Author.Tests.{ltb-true, ltb-false}
use lib.Dec.{ltb}
use mathlib.Core.Path.{◌≡◌, refl, ap, ◌∙◌}
use native.Mathlib.Omega.{arith}
use lib.ListN.{length, get_or}
use Rattle.format.specs.Programs.{depth}
use Rattle.program_chains.specs.Parents.{link_of, links_of, are_parents}
use Rattle.program_chains.proofs.Walks.{within-at, link-none, depth-step, depth-root, depth-none}
use Rattle.program_depths.specs.Depths.{deep}
use Rattle.program_depths.proofs.Deep.{known-fits, known-full}
use Rattle.program_depths.proofs.climb.Goals as goal
use Rattle.program_depths.proofs.climb.Goals.{Then-known}

same-left : (n : ℕ) → n - 0 ≡ n
same-left n = omega arith

-- where the depth of `k` is known, what is left is known too
module _ (ps : List ℕ) (within : are_parents (length ps) ps ≡ true) (k s : ℕ) (here : k < length ps) (some : k ≡ 4294967295 → ⊥) (more : s < length ps) (ends : deep ps k < length ps) where
  least : s + depth (links_of ps) (length ps - s) (link_of k) ≡ min (length ps) (s + 1 + deep ps k)
  least = go (ltb (deep ps k) (length ps - s)) refl
    where
      go : (t : Bool) → ltb (deep ps k) (length ps - s) ≡ t → s + depth (links_of ps) (length ps - s) (link_of k) ≡ min (length ps) (s + 1 + deep ps k)
      go true q = let l = ltb-true (deep ps k) (length ps - s) q in omega (arith, l, known-fits ps within k (length ps - s) here some (omega arith) ends l)
      go false q = let l = ltb-false (deep ps k) (length ps - s) q in omega (arith, l, known-full ps within k (length ps - s) here some (omega arith) ends l)

pub offset_bounds-parents-i : goal.offset_bounds-parents-i
offset_bounds-parents-i c = omega arith

pub bounds-parents-i : goal.bounds-parents-i
bounds-parents-i c = omega arith

pub loop-steps-init : goal.loop-steps-init
unfolding deep
loop-steps-init c = (within-at _ _ _ c.requires.parents_value (omega arith), omega (arith, ap (λ n. depth (links_of c.args.parents.now) n (link_of (get_or c.args.parents.now c.args.i 0))) (same-left (length c.args.parents.now))))

pub returns-then-at : goal.returns-then-at
returns-then-at c =
    let l = c.loop-steps in
    let e : depth (links_of c.args.parents.now) (length c.args.parents.now - l.steps) (link_of l.at) ≡ 0 = ap (depth (links_of c.args.parents.now) (length c.args.parents.now - l.steps)) (link-none _ c.if-at.true) ∙ depth-root _ (length c.args.parents.now - l.steps) in
    omega (arith, l.invariant.1, e)

pub overflow_cast-k : goal.overflow_cast-k
overflow_cast-k c = omega (arith, c.loop-steps.invariant.0 c.if-at.false)

pub offset_bounds-depths-k : goal.offset_bounds-depths-k
offset_bounds-depths-k c = omega (arith, c.loop-steps.invariant.0 c.if-at.false)

pub bounds-depths-k : goal.bounds-depths-k
bounds-depths-k c = omega (arith, c.loop-steps.invariant.0 c.if-at.false)

-- what is noted for `at`
noted : (c : Then-known) → (get_or c.args.depths.now c.loop-steps.at 0 ≡ deep c.args.parents.now c.loop-steps.at) × (deep c.args.parents.now c.loop-steps.at < length c.args.parents.now)
noted c = c.requires.known_right c.loop-steps.at (c.loop-steps.invariant.0 c.if-at.false) c.if-known.true

pub overflow_add-steps-then-known : goal.overflow_add-steps-then-known
overflow_add-steps-then-known c = let z = noted (goal.at.overflow_add-steps-then-known c).Then-known in omega (arith, z.0, z.1)

pub returns-then-known : goal.returns-then-known
returns-then-known c =
    let l = c.loop-steps in
    let z = noted (goal.at.returns-then-known c).Then-known in
    omega (arith, z.0, c.min.ensures, l.invariant.1, least c.args.parents.now c.requires.parents_value l.at l.steps (l.invariant.0 c.if-at.false) c.if-at.false c.loop-steps-test.true z.1)

pub offset_bounds-parents-k : goal.offset_bounds-parents-k
offset_bounds-parents-k c = omega (arith, c.loop-steps.invariant.0 c.if-at.false)

pub bounds-parents-k : goal.bounds-parents-k
bounds-parents-k c = omega (arith, c.loop-steps.invariant.0 c.if-at.false)

pub loop-steps-preserved : goal.loop-steps-preserved
loop-steps-preserved c =
    let l = c.loop-steps in
    let ne = c.if-at.false in
    let one-less : length c.args.parents.now - (l.steps + 1) ≡ length c.args.parents.now - l.steps - 1 = omega arith in (
      within-at _ _ _ c.requires.parents_value (l.invariant.0 ne),
      omega (arith, l.invariant.1, depth-step c.args.parents.now l.at (length c.args.parents.now - l.steps) ne (l.invariant.0 ne) (omega arith), ap (λ n. depth (links_of c.args.parents.now) n (link_of (get_or c.args.parents.now l.at 0))) one-less),
    )

pub returns : goal.returns
returns c =
    let l = c.loop-steps in
    omega (arith, l.invariant.1, depth-none (links_of c.args.parents.now) (length c.args.parents.now - l.steps) (link_of l.at) (omega arith))
