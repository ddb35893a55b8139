-- `tidy_parts::put_tag` meets its contract: four stores in a row.
use mathlib.Core.Path.{refl}
use native.Mathlib.Omega.{arith}
use lib.ListN.{length-set}
use Rattle.byte_slices.proofs.Over.{over-four}
use Rattle.tidy_parts.proofs.put_tag.Goals as goal

pub bounds-out-o-2 : goal.bounds-out-o-2
bounds-out-o-2 c = simp length-set (omega arith)

pub bounds-out-o-3 : goal.bounds-out-o-3
bounds-out-o-3 c = simp length-set (omega arith)

pub bounds-out-o-4 : goal.bounds-out-o-4
bounds-out-o-4 c = simp length-set (omega arith)

pub shape_of-out : goal.shape_of-out
shape_of-out c = simp length-set

pub returns : goal.returns
returns c = record {
  next = refl;
  wrote = over-four c.args.out.now c.args.o _ _ _ _ c.requires;
}
