-- `merge_lists::mark_list` meets its contract: what the marks and the ordinals from the place on say stays.
use mathlib.Core.Path.{sym, ◌∙◌}
use mathlib.Core.Bool.{true}
use native.Mathlib.Omega.{arith}
use lib.ListN.{length-set}
use Rattle.merge_lists.proofs.Marks.{too-high, met-again, met-first, marked-first, fresh-end, marked-end}
use Rattle.merge_lists.proofs.mark_list.Goals as goal
use Rattle.merge_lists.proofs.mark_list.Goals.{then-count-k-via-then-count-k, then-count-k-via-else-count-k+then-hits-k}

pub returns-then-count-k-clause-good : goal.returns-then-count-k-clause-good
returns-then-count-k-clause-good c =
    let l = c.loop-ordinal in
    sym
    (l.invariant.2
    ∙ elim c.then-count-k.branch [
      | then-count-k-via-then-count-k w ↦ too-high _ l.hits _ l.ordinal-index c.loop-ordinal-test.true w.if-count-k.true
      | then-count-k-via-else-count-k+then-hits-k w ↦ met-again _ l.hits _ l.ordinal-index c.loop-ordinal-test.true w.if-count-k.false w.if-hits-k.true
    ])

pub loop-ordinal-preserved : goal.loop-ordinal-preserved
loop-ordinal-preserved c =
    let l = c.loop-ordinal in (
      omega arith,
      length-set l.hits _ true ∙ l.invariant.1,
      l.invariant.2 ∙ met-first _ l.hits _ l.ordinal-index c.loop-ordinal-test.true c.if-count-k.false c.if-hits-k.false,
      l.invariant.3 ∙ marked-first 0 l.hits _ l.ordinal-index c.loop-ordinal-test.true,
    )

pub returns-clause-good : goal.returns-clause-good
returns-clause-good c = let l = c.loop-ordinal in sym (l.invariant.2 ∙ fresh-end _ l.hits _ l.ordinal-index c.loop-ordinal-test.false)

pub returns-clause-hits : goal.returns-clause-hits
returns-clause-hits c = let l = c.loop-ordinal in sym (l.invariant.3 ∙ marked-end 0 l.hits _ l.ordinal-index c.loop-ordinal-test.false)
