-- `program_walks::depth` meets its contract: the steps taken, and those that are to come from `at`, are all. Assumes nothing.
use Prim.Native.Nat.{ℕ, ◌+◌, ◌-◌}
use lib.ListN.{length, get_or}
use mathlib.Core.Path.{◌≡◌, ap, ◌∙◌}
use native.Mathlib.Omega.{arith}
use Rattle.format.specs.Programs.{depth}
use Rattle.program_chains.specs.Parents.{link_of, links_of}
use Rattle.program_chains.proofs.Walks.{within-at, link-none, depth-step, depth-root, depth-none}
use Rattle.program_walks.proofs.depth.Goals as goal

same-left : (n : ℕ) → n - 0 ≡ n
same-left n = omega arith

pub loop-steps-init : goal.loop-steps-init
loop-steps-init c = (within-at _ _ _ c.requires.parents_value (omega arith), omega (arith, ap (λ n. depth (links_of c.args.parents.now) n (link_of (get_or c.args.parents.now c.args.i 0))) (same-left (length c.args.parents.now))))

pub returns-then-at : goal.returns-then-at
returns-then-at c =
    let l = c.loop-steps in
    let e : depth (links_of c.args.parents.now) (length c.args.parents.now - l.steps) (link_of l.at) ≡ 0 = ap (depth (links_of c.args.parents.now) (length c.args.parents.now - l.steps)) (link-none _ c.if-at.true) ∙ depth-root _ (length c.args.parents.now - l.steps) in
    omega (arith, l.invariant.1, e)

pub overflow_cast-at : goal.overflow_cast-at
overflow_cast-at c = omega (arith, c.loop-steps.invariant.0 c.if-at.false)

pub offset_bounds-parents-at : goal.offset_bounds-parents-at
offset_bounds-parents-at c = omega (arith, c.loop-steps.invariant.0 c.if-at.false)

pub bounds-parents-at : goal.bounds-parents-at
bounds-parents-at c = omega (arith, c.loop-steps.invariant.0 c.if-at.false)

pub loop-steps-preserved : goal.loop-steps-preserved
loop-steps-preserved c =
    let l = c.loop-steps in
    let ne = c.if-at.false in
    let one-less : length c.args.parents.now - (l.steps + 1) ≡ length c.args.parents.now - l.steps - 1 = omega arith in (
      within-at _ _ _ c.requires.parents_value (l.invariant.0 ne),
      omega (arith, l.invariant.1, depth-step c.args.parents.now l.at (length c.args.parents.now - l.steps) ne (l.invariant.0 ne) (omega arith), ap (λ n. depth (links_of c.args.parents.now) n (link_of (get_or c.args.parents.now l.at 0))) one-less),
    )

pub returns : goal.returns
returns c =
    let l = c.loop-steps in
    omega (arith, l.invariant.1, depth-none (links_of c.args.parents.now) (length c.args.parents.now - l.steps) (link_of l.at) (omega arith))
