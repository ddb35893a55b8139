-- `add_ids::is_known` meets its contract: what the IDs from `k` on say is the answer.
use Prim.Native.Nat.{◌+◌}
use mathlib.Core.Path.{◌≡◌, refl, sym, ap, ◌∙◌}
use mathlib.Core.Bool.{Bool, true, false, ◌||◌}
use native.Mathlib.Omega.{arith}
use lib.ListN.{drop}
use Rattle.format.specs.Bytes.{same}
use Rattle.program_ids.specs.Ids.{ids_at}
use Rattle.program_ids.proofs.Ids.{ids-length}
use Rattle.add_ids.specs.Taken.{joined, is_among, id_in}
use Rattle.add_ids.proofs.Search.{known-end, known_step}
use Rattle.add_ids.proofs.is_known.Goals as goal
use Rattle.add_ids.proofs.is_known.Goals.{After-is_joined}

pub loop-k-init : goal.loop-k-init
loop-k-init c = refl

-- the answer, by the ID that was compared
step : (c : After-is_joined) (b : Bool) → c.is_joined.result ≡ b
    → let a = c.args in
    let ids = ids_at a.text.now a.ids.now in
    let made = joined a.prefix.now a.other.now in
    is_among made ids ≡ b || is_among made (drop (c.loop-k.k + 1) ids)
unfolding id_in
step c b e =
    let a = c.args in
    let l = c.loop-k in
    let ids = ids_at a.text.now a.ids.now in
    let made = joined a.prefix.now a.other.now in
    l.invariant ∙ known_step made ids l.k (omega (arith, ids-length a.text.now a.ids.now c.requires))
    ∙ ap (λ b. b || is_among made (drop (l.k + 1) ids)) (sym (c.is_joined.ensures ∙ ap (same made) c.id_at-id.ensures.value) ∙ e)

pub returns-then-is_joined : goal.returns-then-is_joined
returns-then-is_joined c = sym (step (goal.at.returns-then-is_joined c).After-is_joined true c.if-is_joined.true)

pub loop-k-preserved : goal.loop-k-preserved
loop-k-preserved c = step (goal.at.loop-k-preserved c).After-is_joined false c.if-is_joined.false

pub returns : goal.returns
returns c =
    let a = c.args in
    let l = c.loop-k in
    let e = ids-length a.text.now a.ids.now c.requires in
    sym (l.invariant ∙ known-end (joined a.prefix.now a.other.now) (ids_at a.text.now a.ids.now) l.k (omega (arith, e)))
