-- `add_input::find_previous` meets its contract: the last PP so far, or else that of the fields which are left, stays.
use Prim.Native.Nat.{◌+◌, ◌≤◌}
use mathlib.Core.Path.{◌≡◌, sym, ap, ◌∙◌}
use native.Mathlib.Omega.{arith}
use lib.ListN.{length, drop}
use Rattle.byte_slices.specs.Upto.{upto}
use Rattle.byte_slices.proofs.Before.{rest}
use Rattle.add_input.proofs.Last.{seeking-start, seeking-end, bounds, seeking-same, seeking-other}
use Rattle.add_input.proofs.find_previous.Goals as goal
use Rattle.add_input.proofs.find_previous.Goals.{After-upto}

-- where the field of a step ends
end : (c : After-upto)
    → c.loop-pos.pos + 1 + c.upto.result ≡ c.loop-pos.pos + 1 + upto 9 (drop (c.loop-pos.pos + 1) c.args.fields.now)
end c =
    ap (λ n. c.loop-pos.pos + 1 + n) (c.upto.ensures ∙ ap (upto 9) (rest (c.loop-pos.pos + 1) c.args.fields.now))

reach : (c : After-upto)
    → (c.loop-pos.pos + 4 ≤ c.loop-pos.pos + 1 + c.upto.result) × (c.loop-pos.pos + 1 + c.upto.result ≤ length c.args.fields.now)
reach c =
    bounds c.args.fields.now c.loop-pos.last c.loop-pos.pos c.loop-pos.invariant c.loop-pos-test.true (c.loop-pos.pos + 1 + c.upto.result) (end c)

pub loop-pos-init : goal.loop-pos-init
loop-pos-init c = seeking-start c.args.fields.now c.requires

pub overflow_add-end-in-loop-pos : goal.overflow_add-end-in-loop-pos
overflow_add-end-in-loop-pos c = omega (arith, reach c)

pub overflow_add-pos-in-loop-pos : goal.overflow_add-pos-in-loop-pos
overflow_add-pos-in-loop-pos c = omega (arith, reach c)

pub bounds-fields-pos : goal.bounds-fields-pos
bounds-fields-pos c = omega (arith, reach (goal.at.bounds-fields-pos c).After-upto)

pub overflow_add-pos-in-loop-pos-2 : goal.overflow_add-pos-in-loop-pos-2
overflow_add-pos-in-loop-pos-2 c = omega (arith, reach (goal.at.overflow_add-pos-in-loop-pos-2 c).After-upto)

pub bounds-fields-pos-in-loop-pos : goal.bounds-fields-pos-in-loop-pos
bounds-fields-pos-in-loop-pos c = omega (arith, reach (goal.at.bounds-fields-pos-in-loop-pos c).After-upto)

pub overflow_add-at : goal.overflow_add-at
overflow_add-at c = omega (arith, reach (goal.at.overflow_add-at c).After-upto)

pub overflow_sub-last : goal.overflow_sub-last
overflow_sub-last c = omega (arith, reach (goal.at.overflow_sub-last c).After-upto)

pub loop-pos-smaller-then-is_same_tag : goal.loop-pos-smaller-then-is_same_tag
loop-pos-smaller-then-is_same_tag c = omega (arith, reach (goal.at.loop-pos-smaller-then-is_same_tag c).After-upto)

pub loop-pos-preserved-then-is_same_tag : goal.loop-pos-preserved-then-is_same_tag
loop-pos-preserved-then-is_same_tag c =
    seeking-same c.args.fields.now c.loop-pos.last c.loop-pos.pos c.loop-pos.invariant c.loop-pos-test.true (c.loop-pos.pos + 1 + c.upto.result) (end (goal.at.loop-pos-preserved-then-is_same_tag c).After-upto) (sym c.is_same_tag.ensures ∙ c.if-is_same_tag.true)

pub loop-pos-smaller : goal.loop-pos-smaller
loop-pos-smaller c = omega (arith, reach (goal.at.loop-pos-smaller c).After-upto)

pub loop-pos-preserved : goal.loop-pos-preserved
loop-pos-preserved c =
    seeking-other c.args.fields.now c.loop-pos.last c.loop-pos.pos c.loop-pos.invariant c.loop-pos-test.true (c.loop-pos.pos + 1 + c.upto.result) (end (goal.at.loop-pos-preserved c).After-upto) (sym c.is_same_tag.ensures ∙ c.if-is_same_tag.false)

pub returns : goal.returns
returns c =
    seeking-end c.args.fields.now c.loop-pos.last c.loop-pos.pos c.loop-pos.invariant c.loop-pos-test.false
