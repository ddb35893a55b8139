-- `name_index::free_slot` meets its contract: the slots that were passed are full, and the first empty one is among those that are left.
use Rattle.std.proofs.Common.{◌≡◌, ◌<◌, length, get_or, sym, ◌∙◌, arith}
use Rattle.format.specs.Slots.{around}
use Rattle.name_index.proofs.Path.{around-long, within, around-slot, seated}
use Rattle.name_index.proofs.Passing.{full-end, full-here, full-on}
use Rattle.name_index.proofs.free_slot.Goals as goal
use Rattle.name_index.proofs.free_slot.Goals.{After-turned-at}

-- ---- in a step of the loop

inside : (c : After-turned-at) → c.turned-at.result < length c.args.slots.now
inside c = within c.args.slots.now c.args.first c.requires.first_in_bounds c.loop-i.i c.turned-at.result c.turned-at.ensures

seen : (c : After-turned-at) → get_or (around c.args.first c.args.slots.now) c.loop-i.i 0 ≡ get_or c.args.slots.now c.turned-at.result 0
seen c = around-slot c.args.slots.now c.args.first c.requires.first_in_bounds c.loop-i.i c.turned-at.result c.turned-at.ensures (omega arith)

left : (c : After-turned-at) → c.loop-i.i < length (around c.args.first c.args.slots.now)
left c = omega (arith, around-long c.args.slots.now c.args.first c.requires.first_in_bounds)

pub returns-then-slots-at-eq0 : goal.returns-then-slots-at-eq0
returns-then-slots-at-eq0 c =
    let l = c.loop-i in
    seated c.args.slots.now c.args.first c.requires.first_in_bounds l.i c.turned-at.result c.turned-at.ensures
    (omega (arith, l.invariant, full-here (around c.args.first c.args.slots.now) l.i (left (goal.at.returns-then-slots-at-eq0 c).After-turned-at) (seen (goal.at.returns-then-slots-at-eq0 c).After-turned-at ∙ c.if-slots-at-eq0.true)))

pub loop-i-preserved : goal.loop-i-preserved
loop-i-preserved c =
    let l = c.loop-i in
    omega (arith, l.invariant, full-on (around c.args.first c.args.slots.now) l.i (left (goal.at.loop-i-preserved c).After-turned-at) (λ e. c.if-slots-at-eq0.false (sym (seen (goal.at.loop-i-preserved c).After-turned-at) ∙ e)))

pub returns : goal.returns
returns c =
    let long = around-long c.args.slots.now c.args.first c.requires.first_in_bounds in
    seated c.args.slots.now c.args.first c.requires.first_in_bounds (length c.args.slots.now) c.turned.result c.turned.ensures
    (let e : c.loop-i.i ≡ length c.args.slots.now = omega arith in omega (arith, c.loop-i.invariant, e, full-end (around c.args.first c.args.slots.now) c.loop-i.i (omega (arith, long, e))))
