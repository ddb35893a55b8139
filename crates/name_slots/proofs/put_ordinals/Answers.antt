-- `name_slots::put_ordinals` meets its contract: what the notes that are left put is what all put.
use Prim.Native.Nat.{ℕ, suc, ◌+◌}
use mathlib.Core.Path.{◌≡◌, sym, ap, ◌∙◌}
use native.Mathlib.Omega.{arith}
use native.Mathlib.Numerals.{add-one}
use lib.ListN.{length, get_or, drop, set, length-set}
use lib.Seq.{set_out}
use Rattle.name_slots.specs.Filled.{with_ordinals}
use Rattle.name_slots.proofs.Noted.{numbered-end, numbered-on}
use Rattle.name_slots.proofs.put_ordinals.Goals as goal
use Rattle.name_slots.proofs.put_ordinals.Goals.{then-at-slots, else-at-slots}

pub loop-k-preserved : goal.loop-k-preserved
loop-k-preserved c =
    let notes = c.args.notes.now in
    let k : ℕ = c.loop-k.k in
    let slots = c.loop-k.slots in
    let s : ℕ = get_or notes k 0 in
    let put : c.if-at-slots.slots ≡ set slots s (suc k) =
    elim c.if-at-slots.branch [
      | then-at-slots w ↦ w.slots-is ∙ ap (set slots s) (add-one k)
      | else-at-slots w ↦ w.slots-is ∙ sym (set_out slots s (suc k) w.if-at-slots.false)
    ] in (
      ap length put ∙ length-set slots s (suc k) ∙ c.loop-k.invariant.0,
      c.loop-k.invariant.1 ∙ numbered-on notes slots k (omega arith) ∙ ap (with_ordinals (k + 1) (drop (k + 1) notes)) (sym put),
    )

pub returns : goal.returns
returns c =
    sym (c.loop-k.invariant.1 ∙ numbered-end c.args.notes.now c.loop-k.slots c.loop-k.k (omega arith))
