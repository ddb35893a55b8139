-- `binary_put::put_reference` meets its contract: the parts of a reference come one after another.
use Prim.Native.Nat.{◌+◌}
use mathlib.Core.Path.{refl, ap, ◌∙◌}
use native.Mathlib.Omega.{arith}
use lib.ListN.{length, set, length-set}
use Rattle.format.specs.Catalogue.{little}
use Rattle.byte_slices.specs.Over.{over}
use Rattle.binary_put.proofs.Bytes.{reference-over}
use Rattle.binary_put.proofs.put_reference.Goals as goal

pub put_u32-requires-2 : goal.put_u32-requires-2
put_u32-requires-2 c = simp length-set (omega arith)

pub shape_of-out : goal.shape_of-out
shape_of-out c =
    c.put_u32-2.auto.out ∙ simp length-set c.put_bytes.auto.out ∙ c.put_u32.auto.out

pub returns : goal.returns
returns c =
    let a = c.args in
    let n = length a.name.now in record {
      next = refl;
      wrote = c.put_u32-2.ensures
          ∙ ap (λ o. over (set o (a.at + 4 + n) 0) (a.at + 5 + n) (little 4 a.size)) (c.put_bytes.ensures ∙ ap (λ o. over o (a.at + 4) a.name.now) c.put_u32.ensures)
          ∙ reference-over a.out.now a.at a.name.now a.size c.requires.name_in_bounds;
    }
