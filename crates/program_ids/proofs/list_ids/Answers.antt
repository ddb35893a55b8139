-- `program_ids::list_ids` meets its contract: the first `k` IDs are listed.
use Prim.Native.Nat.{◌+◌, ◌*◌, ◌≤◌, ◌<◌}
use native.Mathlib.Omega.{arith}
use lib.ListN.{length, get_or, length-set}
use Rattle.program_ids.specs.Places.{places_of}
use Rattle.program_ids.proofs.Ids.{listed-none, listing-long, listing-all, listing-inside, listing-more}
use Rattle.program_ids.proofs.list_ids.Goals as goal
use Rattle.program_ids.proofs.list_ids.Goals.{In-loop-k}

pub loop-k-init : goal.loop-k-init
loop-k-init c =
    let a = c.args in
    listed-none a.text.now (places_of a.ats.now a.lens.now) a.list.now

-- the place at `k` is one of those that are given, and within the text
early : (c : In-loop-k) → c.loop-k.k < length c.args.ats.now
early c = c.loop-k-test.true

few : (c : In-loop-k) → c.loop-k.k < 1024
few c = omega (arith, early c, c.requires.places_in_text.few)

inside : (c : In-loop-k)
    → let a = c.args in
    get_or a.ats.now c.loop-k.k 0 + get_or a.lens.now c.loop-k.k 0 ≤ length a.text.now
inside c =
    listing-inside c.args.text.now c.args.ats.now c.args.lens.now c.requires.places_in_text c.loop-k.k (early c)

-- there is room for its three numbers
room : (c : In-loop-k) → c.loop-k.k * 3 + 2 < length c.loop-k.list
room c =
    omega (arith, early c, c.requires.ats_in_bounds, listing-long c.args.text.now c.args.ats.now c.args.lens.now c.requires.places_in_text c.args.list.now c.loop-k.list c.requires.ats_in_bounds c.loop-k.k c.loop-k.invariant)

pub offset_bounds-ats-k : goal.offset_bounds-ats-k
offset_bounds-ats-k c = omega (arith, few c)

pub bounds-ats-k : goal.bounds-ats-k
bounds-ats-k c = early (goal.at.bounds-ats-k c).In-loop-k

pub offset_bounds-lens-k : goal.offset_bounds-lens-k
offset_bounds-lens-k c = omega (arith, few (goal.at.offset_bounds-lens-k c).In-loop-k)

pub bounds-lens-k : goal.bounds-lens-k
bounds-lens-k c = omega (arith, early (goal.at.bounds-lens-k c).In-loop-k, c.requires.places_in_text.even)

pub overflow_cast-start : goal.overflow_cast-start
overflow_cast-start c = omega (arith, inside (goal.at.overflow_cast-start c).In-loop-k)

pub overflow_cast-end : goal.overflow_cast-end
overflow_cast-end c = omega (arith, inside (goal.at.overflow_cast-end c).In-loop-k)

pub overflow_add-end : goal.overflow_add-end
overflow_add-end c = omega (arith, inside (goal.at.overflow_add-end c).In-loop-k)

pub overflow_mul-row : goal.overflow_mul-row
overflow_mul-row c = omega (arith, few (goal.at.overflow_mul-row c).In-loop-k)

pub offset_bounds-list-row : goal.offset_bounds-list-row
offset_bounds-list-row c = omega (arith, few (goal.at.offset_bounds-list-row c).In-loop-k)

pub bounds-list-row : goal.bounds-list-row
bounds-list-row c = omega (arith, room (goal.at.bounds-list-row c).In-loop-k)

pub overflow_add-list : goal.overflow_add-list
overflow_add-list c = omega (arith, few (goal.at.overflow_add-list c).In-loop-k)

pub offset_bounds-list-row-in-loop-k : goal.offset_bounds-list-row-in-loop-k
offset_bounds-list-row-in-loop-k c = omega (arith, few (goal.at.offset_bounds-list-row-in-loop-k c).In-loop-k)

pub bounds-list-row-in-loop-k : goal.bounds-list-row-in-loop-k
bounds-list-row-in-loop-k c = simp length-set (omega (arith, room (goal.at.bounds-list-row-in-loop-k c).In-loop-k))

pub slice_bounds-number_of-count : goal.slice_bounds-number_of-count
slice_bounds-number_of-count c = omega arith

pub slice_bounds-number_of-end : goal.slice_bounds-number_of-end
slice_bounds-number_of-end c = omega (arith, inside (goal.at.slice_bounds-number_of-end c).In-loop-k)

pub overflow_add-list-in-loop-k : goal.overflow_add-list-in-loop-k
overflow_add-list-in-loop-k c = omega (arith, few (goal.at.overflow_add-list-in-loop-k c).In-loop-k)

pub offset_bounds-list-row-in-loop-k-2 : goal.offset_bounds-list-row-in-loop-k-2
offset_bounds-list-row-in-loop-k-2 c = omega (arith, few (goal.at.offset_bounds-list-row-in-loop-k-2 c).In-loop-k)

pub bounds-list-row-in-loop-k-2 : goal.bounds-list-row-in-loop-k-2
bounds-list-row-in-loop-k-2 c = simp length-set (room (goal.at.bounds-list-row-in-loop-k-2 c).In-loop-k)

pub loop-k-preserved : goal.loop-k-preserved
loop-k-preserved c =
    listing-more c.args.text.now c.args.ats.now c.args.lens.now c.requires.places_in_text c.loop-k.k (early (goal.at.loop-k-preserved c).In-loop-k) c.args.list.now c.loop-k.list c.requires.ats_in_bounds c.loop-k.invariant c.number_of.result c.number_of.ensures

pub shape_of-list : goal.shape_of-list
shape_of-list c =
    listing-long c.args.text.now c.args.ats.now c.args.lens.now c.requires.places_in_text c.args.list.now c.loop-k.list c.requires.ats_in_bounds c.loop-k.k c.loop-k.invariant

pub returns : goal.returns
returns c =
    listing-all c.args.text.now c.args.ats.now c.args.lens.now c.requires.places_in_text c.args.list.now c.loop-k.list c.requires.ats_in_bounds c.loop-k.k c.loop-k.invariant c.loop-k-test.false
