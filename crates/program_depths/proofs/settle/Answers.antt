-- `program_depths::settle` meets its contract: the depth of a parent is one less than its child's. Assumes nothing.
use Prim.Native.Nat.{ℕ, suc, ◌<◌}
use mathlib.Core.Path.{◌≡◌, refl, ◌∙◌}
use mathlib.Core.List.{List}
use native.Mathlib.Omega.{arith}
use lib.ListN.{length, get_or, length-set}
use Rattle.program_depths.specs.Depths.{deep}
use Rattle.program_depths.proofs.Deep.{deep-below, deep-up}
use Rattle.program_depths.proofs.Noting.{noted-set, kept_set, kept_same}
use Rattle.program_depths.proofs.settle.Goals as goal
use Rattle.program_depths.proofs.settle.Goals.{In-loop-depth}

pub loop-depth-init : goal.loop-depth-init
loop-depth-init c = (c.requires.i_in_bounds.0, c.requires.i_in_bounds.1, c.requires.i_in_bounds.2, c.requires.known_right, kept_same c.args.depths.now, refl)

-- the parent
abbrev ps : (c : In-loop-depth) → List ℕ
ps c = c.args.parents.now

abbrev at : (c : In-loop-depth) → ℕ
at c = c.loop-depth.at

abbrev left : (c : In-loop-depth) → ℕ
left c = c.loop-depth.depth

below : (c : In-loop-depth) → get_or (ps c) (at c) 0 < length (ps c)
below c = deep-below (ps c) c.requires.parents_value (at c) c.loop-depth.invariant.0 (omega (arith, c.loop-depth.invariant.1)) (omega (arith, c.loop-depth.invariant.1))

up : (c : In-loop-depth) → (left c) ≡ suc (deep (ps c) (get_or (ps c) (at c) 0))
up c = c.loop-depth.invariant.1 ∙ deep-up (ps c) c.requires.parents_value (at c) c.loop-depth.invariant.0 (omega (arith, c.loop-depth.invariant.1)) (omega (arith, c.loop-depth.invariant.1))

pub offset_bounds-parents-at : goal.offset_bounds-parents-at
offset_bounds-parents-at c = omega (arith, c.loop-depth.invariant.0)

pub bounds-parents-at : goal.bounds-parents-at
bounds-parents-at c = c.loop-depth.invariant.0

pub overflow_cast-k : goal.overflow_cast-k
overflow_cast-k c = omega (arith, below (goal.at.overflow_cast-k c).In-loop-depth)

pub offset_bounds-depths-k : goal.offset_bounds-depths-k
offset_bounds-depths-k c = omega (arith, below (goal.at.offset_bounds-depths-k c).In-loop-depth)

pub bounds-depths-k : goal.bounds-depths-k
bounds-depths-k c = omega (arith, below (goal.at.bounds-depths-k c).In-loop-depth)

pub returns-then-depths-k : goal.returns-then-depths-k
returns-then-depths-k c = let l = c.loop-depth in record {
  noted = l.invariant.3;
  kept = l.invariant.4;
  sized = l.invariant.5;
}

pub offset_bounds-depths-k-in-loop-depth : goal.offset_bounds-depths-k-in-loop-depth
offset_bounds-depths-k-in-loop-depth c = omega (arith, below (goal.at.offset_bounds-depths-k-in-loop-depth c).In-loop-depth)

pub bounds-depths-k-in-loop-depth : goal.bounds-depths-k-in-loop-depth
bounds-depths-k-in-loop-depth c = omega (arith, below (goal.at.bounds-depths-k-in-loop-depth c).In-loop-depth)

pub loop-depth-preserved : goal.loop-depth-preserved
loop-depth-preserved c =
    let p = (goal.at.loop-depth-preserved c).In-loop-depth in
    let l = c.loop-depth in
    let less : l.depth ≡ suc (deep (ps p) (get_or (ps p) (at p) 0)) = up p in (
      below p,
      omega (arith, less),
      omega (arith, l.invariant.2),
      noted-set l.depths (get_or (ps p) (at p) 0) _ c.if-depths-k.false (ps p) (omega (arith, less)) (omega (arith, l.invariant.2)) l.invariant.3,
      kept_set l.depths (get_or (ps p) (at p) 0) _ c.if-depths-k.false c.args.depths.now l.invariant.4,
      length-set l.depths (get_or (ps p) (at p) 0) _ ∙ l.invariant.5,
    )

pub returns : goal.returns
returns c = let l = c.loop-depth in record {
  noted = l.invariant.3;
  kept = l.invariant.4;
  sized = l.invariant.5;
}
