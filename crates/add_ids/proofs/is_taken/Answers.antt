-- `add_ids::is_taken` meets its contract: what the leaves from `i` on say is the answer.
use Prim.Native.Nat.{◌+◌}
use mathlib.Core.Path.{◌≡◌, refl, sym, ap, ◌∙◌}
use mathlib.Core.Bool.{Bool, true, false, ◌||◌}
use native.Mathlib.Omega.{arith}
use lib.ListN.{drop}
use Rattle.program_ids.specs.Ids.{ids_at}
use Rattle.add_ids.specs.Taken.{joined, is_among, taken}
use Rattle.add_ids.proofs.Search.{taken-end, taken_step}
use Rattle.add_ids.proofs.is_taken.Goals as goal
use Rattle.add_ids.proofs.is_taken.Goals.{After-is_known}

pub loop-leaf-init : goal.loop-leaf-init
loop-leaf-init c = refl

-- the answer, by the made ID that was looked for
step : (c : After-is_known) (b : Bool) → c.is_known.result ≡ b
    → let a = c.args in
    let ids = ids_at a.text.now a.ids.now in
    taken ids a.prefix.now a.leaves.now ≡ b || taken ids a.prefix.now (drop (c.loop-leaf.leaf-index + 1) a.leaves.now)
step c b e =
    let a = c.args in
    let l = c.loop-leaf in
    let ids = ids_at a.text.now a.ids.now in
    l.invariant ∙ taken_step ids a.prefix.now a.leaves.now l.leaf-index (omega arith)
    ∙ ap (λ b. b || taken ids a.prefix.now (drop (l.leaf-index + 1) a.leaves.now)) (sym (c.is_known.ensures ∙ ap (λ id. is_among (joined a.prefix.now id) ids) c.find_id-id.ensures.value) ∙ e)

pub returns-then-is_known : goal.returns-then-is_known
returns-then-is_known c = sym (step (goal.at.returns-then-is_known c).After-is_known true c.if-is_known.true)

pub loop-leaf-preserved : goal.loop-leaf-preserved
loop-leaf-preserved c = step (goal.at.loop-leaf-preserved c).After-is_known false c.if-is_known.false

pub returns : goal.returns
returns c =
    let a = c.args in
    let l = c.loop-leaf in
    sym (l.invariant ∙ taken-end (ids_at a.text.now a.ids.now) a.prefix.now a.leaves.now l.leaf-index (omega arith))
