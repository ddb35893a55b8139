-- `program_walks::comes_back` meets its contract: what is asked from `i` with n steps is asked from `at` with those left. Assumes nothing.
use Prim.Native.Nat.{ℕ, ◌+◌, ◌-◌}
use lib.ListN.{length, get_or}
use Rattle.program_chains.specs.Parents.{link_of, links_of}
use mathlib.Core.Path.{◌≡◌, sym, ap, ◌∙◌}
use native.Mathlib.Omega.{arith}
use Rattle.format.specs.Programs.{reaches}
use Rattle.program_chains.proofs.Walks.{within-at, link-none, reaches_here, reaches-on, reaches-root, reaches-none}
use Rattle.program_walks.proofs.comes_back.Goals as goal

same-left : (n : ℕ) → n ≡ n - 0
same-left n = omega arith

pub loop-init : goal.loop-init
loop-init c = (within-at _ _ _ c.requires.parents_value c.requires.i_in_bounds, ap (λ n. reaches (links_of c.args.parents.now) c.args.i n (link_of (get_or c.args.parents.now c.args.i 0))) (same-left (length c.args.parents.now)))

pub returns-then-at : goal.returns-then-at
returns-then-at c =
    let l = c.loop in
    sym (l.invariant.1 ∙ ap (reaches _ _ (length c.args.parents.now - l.counter)) (link-none _ c.if-at.true) ∙ reaches-root _ _ (length c.args.parents.now - l.counter))

pub overflow_cast-k : goal.overflow_cast-k
overflow_cast-k c = omega (arith, c.loop.invariant.0 c.if-at.false)

pub returns-then-i-k : goal.returns-then-i-k
returns-then-i-k c =
    let l = c.loop in
    let ne = c.if-at.false in
    sym (l.invariant.1 ∙ reaches_here _ l.at (length c.args.parents.now - l.counter) ne (l.invariant.0 ne) (omega arith) _ c.if-i-k.true)

pub offset_bounds-parents-k : goal.offset_bounds-parents-k
offset_bounds-parents-k c = omega (arith, c.loop.invariant.0 c.if-at.false)

pub bounds-parents-k : goal.bounds-parents-k
bounds-parents-k c = omega (arith, c.loop.invariant.0 c.if-at.false)

pub loop-preserved : goal.loop-preserved
loop-preserved c =
    let l = c.loop in
    let ne = c.if-at.false in
    let one-less : length c.args.parents.now - l.counter - 1 ≡ length c.args.parents.now - (l.counter + 1) = omega arith in (
      within-at _ _ _ c.requires.parents_value (l.invariant.0 ne),
      l.invariant.1 ∙ reaches-on _ l.at (length c.args.parents.now - l.counter) ne (l.invariant.0 ne) (omega arith) _ c.if-i-k.false ∙ ap (λ n. reaches (links_of c.args.parents.now) c.args.i n (link_of (get_or c.args.parents.now l.at 0))) one-less,
    )

pub returns : goal.returns
returns c =
    let l = c.loop in
    sym (l.invariant.1 ∙ reaches-none _ _ (length c.args.parents.now - l.counter) _ (omega arith))
