-- `prune_marks::mark_up` meets its contract: what is marked, and what the walk will mark yet, is all. Assumes nothing.
use Prim.Native.Nat.{ℕ, ◌<◌}
use mathlib.Core.Path.{◌≡◌, refl, sym, ap, subst, ◌∙◌}
use mathlib.Core.Bool.{true}
use mathlib.Core.List.{List}
use native.Mathlib.Omega.{arith}
use lib.ListN.{length, length-set, length-map}
use Rattle.format.specs.Programs.{depth}
use Rattle.program_chains.specs.Listed.{named}
use Rattle.program_chains.specs.Parents.{link_of, links_of, are_parents}
use Rattle.program_chains.proofs.Walks.{within-at, link-none, link-some, link_at}
use Rattle.program_chains.proofs.Bound.{within-below}
use Rattle.prune_marks.proofs.Steps.{depth_falls}
use Rattle.prune_marks.proofs.Marked.{Walking, walk_begins, walk_ends, walk_meets, walk-goes}
use Rattle.prune_marks.proofs.mark_up.Goals as goal

links-length : (ps : List ℕ) → length (links_of ps) ≡ length ps
unfolding links_of
links-length ps = length-map ps link_of

module _ (ps : List ℕ) (w : are_parents (length ps) ps ≡ true) where
  inside : (k : ℕ) → named k (links_of ps) ≡ true → k < length (links_of ps)
  inside k n = omega (arith, links-length ps, within-below (length ps) ps w k n)

pub loop-at-init : goal.loop-at-init
loop-at-init c =
    let a = c.args in
    (refl, (λ n. c.requires.u_in_bounds.0), subst (Walking (links_of a.parents.now) a.u a.marks.now a.marks.now) (sym (link-some a.u (λ e. omega (arith, c.requires.u_in_bounds.1)))) (walk_begins _ _ _ c.requires.closed))

pub overflow_cast-k : goal.overflow_cast-k
overflow_cast-k c = omega (arith, c.loop-at.invariant.1 c.loop-at-test.true)

pub bounds-marks-k : goal.bounds-marks-k
bounds-marks-k c = omega (arith, c.loop-at.invariant.1 c.loop-at-test.true, c.loop-at.invariant.0)

pub shape_of-marks-then-marks-k : goal.shape_of-marks-then-marks-k
shape_of-marks-then-marks-k c = c.loop-at.invariant.0

pub returns-then-marks-k : goal.returns-then-marks-k
returns-then-marks-k c =
    let l = c.loop-at in
    walk_meets _ _ _ l.marks l.at c.if-marks-k.true (subst (Walking _ _ _ _) (link-some l.at c.loop-at-test.true) l.invariant.2)

pub bounds-marks-k-in-loop-at : goal.bounds-marks-k-in-loop-at
bounds-marks-k-in-loop-at c = omega (arith, c.loop-at.invariant.1 c.loop-at-test.true, c.loop-at.invariant.0)

pub offset_bounds-parents-k : goal.offset_bounds-parents-k
offset_bounds-parents-k c = omega (arith, c.loop-at.invariant.1 c.loop-at-test.true)

pub bounds-parents-k : goal.bounds-parents-k
bounds-parents-k c = c.loop-at.invariant.1 c.loop-at-test.true

pub loop-at-smaller : goal.loop-at-smaller
loop-at-smaller c =
    let l = c.loop-at in
    let ps = c.args.parents.now in
    let ls = links_of ps in
    let t = c.loop-at-test.true in
    let h : l.at < length ps = l.invariant.1 t in
    omega (arith, depth_falls ls c.requires.parents_value_2 (inside ps c.requires.parents_value) l.at (omega (arith, links-length ps)), ap (depth ls (length ls)) (link-some l.at t), ap (depth ls (length ls)) (link_at ps l.at h))

pub loop-at-preserved : goal.loop-at-preserved
loop-at-preserved c =
    let l = c.loop-at in
    let ps = c.args.parents.now in
    let ls = links_of ps in
    let t = c.loop-at-test.true in
    let h : l.at < length ps = l.invariant.1 t in (
      length-set l.marks l.at _ ∙ l.invariant.0,
      within-at _ _ _ c.requires.parents_value h,
      subst (Walking ls c.args.u c.args.marks.now _) (link_at ps l.at h)
          (walk-goes ls c.args.u c.args.marks.now c.requires.parents_value_2 (inside ps c.requires.parents_value) l.marks l.at (omega (arith, links-length ps)) (omega (arith, l.invariant.0)) (subst (Walking _ _ _ _) (link-some l.at t) l.invariant.2)),
    )

pub shape_of-marks : goal.shape_of-marks
shape_of-marks c = c.loop-at.invariant.0

pub returns : goal.returns
returns c =
    let l = c.loop-at in
    walk_ends _ _ _ l.marks (subst (Walking _ _ _ _) (link-none l.at c.loop-at-test.false) l.invariant.2)
