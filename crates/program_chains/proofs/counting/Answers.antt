-- `program_chains::counting` meets its contract: after i steps the first i ordinals are listed. Assumes nothing.
use Prim.Native.Nat.{ℕ, ◌+◌, ◌<◌}
use mathlib.Core.Path.{◌≡◌, refl, sym, ap, ◌∙◌}
use native.Mathlib.Omega.{arith}
use mathlib.Core.List.{[], ◌∷◌, ◌++◌}
use native.Mathlib.Nat.{zero-add}
use native.Mathlib.Numerals.{add-one}
use lib.ListN.{set}
use Rattle.format.specs.Programs.{numbers_from}
use Rattle.program_chains.specs.Parents.{in_array}
use Rattle.program_chains.proofs.Arrays.{array-push}
use Rattle.program_chains.proofs.Leaf.{counting-length, counting_more}
use Rattle.program_chains.proofs.counting.Goals as goal

turn : (i : ℕ) → i < 1024 → set (in_array (numbers_from 0 i)) i i ≡ in_array (numbers_from 0 (i + 1))
turn i h =
    ap (λ n. set (in_array (numbers_from 0 i)) n i) (sym (counting-length 0 i))
    ∙ array-push (numbers_from 0 i) i (omega (arith, counting-length 0 i))
    ∙ ap (λ x. in_array (numbers_from 0 i ++ x ∷ [])) (sym (zero-add i))
    ∙ ap in_array (sym (counting_more 0 i))
    ∙ ap (λ n. in_array (numbers_from 0 n)) (sym (add-one i))

pub loop-i-init : goal.loop-i-init
unfolding in_array numbers_from
loop-i-init c = refl

pub loop-i-preserved : goal.loop-i-preserved
loop-i-preserved c =
    let l = c.loop-i in
    ap (λ r. set r l.i l.i) l.invariant ∙ turn l.i (omega arith)

pub returns : goal.returns
returns c = c.loop-i.invariant ∙ ap (λ n. in_array (numbers_from 0 n)) (omega arith)
