-- `tidy_parts::put_prefix` meets its contract: three stores in a row.
use mathlib.Core.Path.{refl, ap, ◌∙◌}
use mathlib.Core.List.{[], ◌∷◌}
use native.Mathlib.Omega.{arith}
use lib.ListN.{length-set}
use Rattle.byte_slices.specs.Over.{over}
use Rattle.accepted.specs.Spelled.{kind₀}
use Rattle.tidy_parts.specs.Parts.{prefix_text}
use Rattle.tidy_parts.proofs.Wrote.{wrote-three}
use Rattle.tidy_parts.proofs.put_prefix.Goals as goal

pub bounds-out-o-2 : goal.bounds-out-o-2
bounds-out-o-2 c = simp length-set (omega arith)

pub bounds-out-o-3 : goal.bounds-out-o-3
bounds-out-o-3 c = simp length-set (omega arith)

pub shape_of-out : goal.shape_of-out
shape_of-out c = simp length-set

pub returns : goal.returns
unfolding prefix_text
returns c =
    let a = c.args in record {
      next = refl;
      wrote = wrote-three a.out.now a.o 64 c.kind_first.result c.kind_second.result (omega arith)
          ∙ ap (λ b. over a.out.now a.o (64 ∷ b ∷ c.kind_second.result ∷ [])) c.kind_first.ensures
          ∙ ap (λ b. over a.out.now a.o (64 ∷ kind₀ a.kind ∷ b ∷ [])) c.kind_second.ensures;
    }
