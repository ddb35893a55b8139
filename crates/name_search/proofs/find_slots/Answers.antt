-- `name_search::find_slots` meets its contract: what is still to be written and summed is that of the names that are left.
use Prim.Native.Nat.{◌+◌, ◌-◌, ◌≤◌, ◌<◌}
use mathlib.Core.Path.{◌≡◌, ap}
use native.Mathlib.Omega.{arith}
use lib.ListN.{length, take, drop, length-take, length-drop}
use Rattle.name_index.proofs.SlotCount.{power-some}
use Rattle.name_lookup.specs.Looking.{slot_of, looks_of}
use Rattle.name_lookup.proofs.Looking.{looks-most}
use Rattle.name_list.proofs.Asked.{name-within}
use Rattle.name_search.proofs.Asking.{asking-start, asking-end, asking-room, asking-on}
use Rattle.name_search.proofs.find_slots.Goals as goal
use Rattle.name_search.proofs.find_slots.Goals.{After-find_slot-found, After-upto}

pub loop-at-init : goal.loop-at-init
loop-at-init c = (omega arith, asking-start _ _ c.args.list.now c.args.out.now c.requires.list_in_bounds)

pub slice_bounds-upto-count : goal.slice_bounds-upto-count
slice_bounds-upto-count c = omega arith

pub slice_bounds-upto-start : goal.slice_bounds-upto-start
slice_bounds-upto-start c = omega arith

pub slice_bounds-upto-end : goal.slice_bounds-upto-end
slice_bounds-upto-end c = omega arith

-- ---- in a step of the loop

within : (c : After-upto) → c.loop-at.at + c.upto.result ≤ length c.args.list.now
within c = name-within c.args.list.now c.loop-at.at c.upto.result c.upto.ensures c.loop-at-test.true

-- the name that is looked for
this : (c : After-upto) →
    let at = c.loop-at.at in
    let list = c.args.list.now in
    take (at + c.upto.result - at) (drop at list) ≡ take c.upto.result (drop at list)
this c =
    let z : c.loop-at.at + c.upto.result - c.loop-at.at ≡ c.upto.result = omega arith in
    ap (λ k. take k (drop c.loop-at.at c.args.list.now)) z

room : (c : After-upto) → c.loop-at.j < length c.loop-at.out
room c =
    let a = c.args in
    asking-room (slot_of a.text.now a.slots.now) (looks_of a.text.now a.slots.now) a.list.now a.out.now c.loop-at.out c.loop-at.at c.loop-at.j c.loop-at.looks c.loop-at.invariant.1 c.upto.result c.upto.ensures c.loop-at-test.true

most : (c : After-find_slot-found) → c.find_slot-found.result.looks ≤ 33554432
most c =
    let x = take (c.loop-at.at + c.upto.result - c.loop-at.at) (drop c.loop-at.at c.args.list.now) in
    omega (arith, c.find_slot-found.ensures.looks, looks-most c.args.text.now c.args.slots.now x (power-some _ c.requires.by_index.0 c.requires.by_index.1), c.requires.slots_len_bound)

pub overflow_add-end : goal.overflow_add-end
overflow_add-end c = omega (arith, within c)

pub slice_bounds-find_slot-count : goal.slice_bounds-find_slot-count
slice_bounds-find_slot-count c = omega arith

pub slice_bounds-find_slot-start : goal.slice_bounds-find_slot-start
slice_bounds-find_slot-start c = omega (arith, within c)

pub slice_bounds-find_slot-end : goal.slice_bounds-find_slot-end
slice_bounds-find_slot-end c = omega (arith, within c)

pub find_slot-found-requires : goal.find_slot-found-requires
find_slot-found-requires c =
    let rest = drop c.loop-at.at c.args.list.now in record {
      slots_len_bound = c.requires.slots_len_bound;
      by_index = c.requires.by_index;
      name_len_bound = omega (arith, length-take (c.loop-at.at + c.upto.result - c.loop-at.at) rest, length-drop c.loop-at.at c.args.list.now, c.requires.list_len_bound);
    }

pub offset_bounds-out-j : goal.offset_bounds-out-j
offset_bounds-out-j c = omega (arith, room (goal.at.offset_bounds-out-j c).After-upto)

pub bounds-out-j : goal.bounds-out-j
bounds-out-j c = room (goal.at.bounds-out-j c).After-upto

pub overflow_cast-looks : goal.overflow_cast-looks
overflow_cast-looks c = omega (arith, most (goal.at.overflow_cast-looks c).After-find_slot-found)

pub overflow_add-looks : goal.overflow_add-looks
overflow_add-looks c = omega (arith, most (goal.at.overflow_add-looks c).After-find_slot-found, c.loop-at.invariant.1.small, c.loop-at.invariant.0, c.requires.list_len_bound)

pub overflow_add-j : goal.overflow_add-j
overflow_add-j c = omega (arith, c.loop-at.invariant.1.slow, c.loop-at.invariant.0, c.requires.list_len_bound)

pub overflow_add-at : goal.overflow_add-at
overflow_add-at c = omega (arith, within (goal.at.overflow_add-at c).After-upto, c.requires.list_len_bound)

pub loop-at-smaller : goal.loop-at-smaller
loop-at-smaller c = omega (arith, c.loop-at-test.true)

pub loop-at-preserved : goal.loop-at-preserved
loop-at-preserved c =
    let w = (goal.at.loop-at-preserved c).After-upto in
    let a = c.args in
    let p = c.find_slot-found in (
      omega (arith, within w),
      asking-on (slot_of a.text.now a.slots.now) (looks_of a.text.now a.slots.now) a.list.now a.out.now c.loop-at.out c.loop-at.at c.loop-at.j c.loop-at.looks c.loop-at.invariant.1
          c.upto.result c.upto.ensures c.loop-at-test.true p.result.slot p.result.looks (take (c.loop-at.at + c.upto.result - c.loop-at.at) (drop c.loop-at.at a.list.now)) (this w) p.ensures.slot p.ensures.looks (most (goal.at.loop-at-preserved c).After-find_slot-found),
    )

pub shape_of-out : goal.shape_of-out
shape_of-out c = c.loop-at.invariant.1.long

pub returns : goal.returns
returns c =
    let a = c.args in
    let told = asking-end (slot_of a.text.now a.slots.now) (looks_of a.text.now a.slots.now) a.list.now a.out.now c.loop-at.out c.loop-at.at c.loop-at.j c.loop-at.looks c.loop-at.invariant.1 c.loop-at-test.false in
    record { wrote = told.0; looks = told.1 }
