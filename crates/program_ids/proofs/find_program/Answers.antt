-- `program_ids::find_program` meets its contract: what the IDs ahead say is the answer, and the number and the bytes at `k` decide.
use Prim.Native.Nat.{◌<◌}
use mathlib.Core.Path.{refl, sym, ap, ◌∙◌}
use native.Mathlib.Omega.{arith}
use lib.ListN.{length}
use Rattle.format.specs.Bytes.{same}
use Rattle.program_ids.specs.Ids.{ids_at}
use Rattle.program_ids.specs.Search.{named_of}
use Rattle.program_ids.proofs.Ids.{ids-length, ids-few}
use Rattle.program_ids.proofs.Search.{ahead_none, turn-other, turn-here, turn-differs}
use Rattle.program_ids.proofs.find_program.Goals as goal
use Rattle.program_ids.proofs.find_program.Goals.{In-loop-k, else-ids-k-via-then-ids-k+else-same, else-ids-k-via-else-ids-k}

pub loop-k-init : goal.loop-k-init
loop-k-init c = (omega arith, refl)

-- the ID at `k` is one of those that are given
early : (c : In-loop-k) → let a = c.args in c.loop-k.k < length (ids_at a.text.now a.ids.now)
early c =
    omega (arith, c.loop-k-test.true, ids-length c.args.text.now c.args.ids.now c.requires)

pub overflow_cast-result : goal.overflow_cast-result
overflow_cast-result c =
    omega (arith, early (goal.at.overflow_cast-result c).In-loop-k, ids-few c.args.text.now c.args.ids.now c.requires)

pub returns-then-same : goal.returns-then-same
unfolding named_of
returns-then-same c =
    sym (ap named_of (turn-here c.args.text.now c.args.ids.now c.args.id.now c.requires c.loop-k.k (early (goal.at.returns-then-same c).In-loop-k) c.loop-k.invariant (sym (ap (same c.args.id.now) c.id_at.ensures.value) ∙ sym c.same.ensures ∙ c.if-same.true)))

pub loop-k-preserved : goal.loop-k-preserved
loop-k-preserved c =
    let p = (goal.at.loop-k-preserved c).In-loop-k in
    let k = c.loop-k.k in
    elim c.else-ids-k.branch [
      | else-ids-k-via-then-ids-k+else-same w ↦ turn-differs c.args.text.now c.args.ids.now c.args.id.now c.requires k (early p) c.loop-k.invariant (sym (ap (same c.args.id.now) w.id_at.ensures.value) ∙ sym w.same.ensures ∙ w.if-same.false)
      | else-ids-k-via-else-ids-k w ↦ turn-other c.args.text.now c.args.ids.now c.args.id.now c.requires k (early p) c.loop-k.invariant (λ e. w.if-ids-k.false (e ∙ sym c.number_of-number.ensures))
    ]

pub returns : goal.returns
unfolding named_of
returns c =
    let e = ids-length c.args.text.now c.args.ids.now c.requires in
    sym (ap named_of (ahead_none c.args.id.now (ids_at c.args.text.now c.args.ids.now) c.loop-k.k c.loop-k.invariant (omega (arith, e, c.loop-k-test.false, c.loop-k.invariant.0))))
