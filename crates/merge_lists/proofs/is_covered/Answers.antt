-- `merge_lists::is_covered` meets its contract: what is asked of all ordinals is asked of those from `i` on.
use Prim.Native.Nat.{◌-◌}
use mathlib.Core.Path.{◌≡◌, sym, ap, ◌∙◌}
use mathlib.Core.Bool.{true, false}
use mathlib.Core.Logic.{◌⊎◌, ⊎_elim}
use native.Mathlib.Omega.{arith}
use lib.ListN.{get_or}
use Rattle.merge_lists.specs.Marks.{hit_from}
use Rattle.merge_lists.proofs.Marks.{hit-neither, hit-first, hit-second, hit-end}
use Rattle.merge_lists.proofs.is_covered.Goals as goal

pub loop-i-init : goal.loop-i-init
loop-i-init c = (omega arith, let n = c.args.count in let e : n ≡ n - 0 = omega arith in ap (hit_from c.args.a.now c.args.b.now 0) e)

pub returns-then-not-b-i : goal.returns-then-not-b-i
returns-then-not-b-i c =
    let l = c.loop-i in
    let a = c.args in
    sym (l.invariant.1 ∙ hit-neither a.a.now a.b.now l.i a.count (omega arith) (grind arith) (grind arith))

pub loop-i-preserved : goal.loop-i-preserved
loop-i-preserved c =
    let l = c.loop-i in
    let a = c.args in
    let one : (get_or a.a.now l.i false ≡ true) ⊎ (get_or a.b.now l.i false ≡ true) = grind arith in (
      omega arith,
      l.invariant.1
          ∙ ⊎_elim (λ e. hit-first a.a.now a.b.now l.i a.count (omega arith) e) (λ e. hit-second a.a.now a.b.now l.i a.count (omega arith) e) one,
    )

pub returns : goal.returns
returns c = sym (c.loop-i.invariant.1 ∙ hit-end _ _ c.loop-i.i _ (omega arith))
