-- `program_places::gather` meets its contract: the programs that are in the arrays, and those from `at` on, are all.
use Prim.Native.Nat.{◌+◌, ◌-◌, ◌≤◌, ◌<◌}
use native.Mathlib.Omega.{arith}
use lib.ListN.{length}
use Rattle.catalogue_entries.proofs.Walk.{turn-within}
use Rattle.program_places.proofs.Noting.{listed_start, listed-all, listed-other, listed-room, listed_more}
use Rattle.program_places.proofs.gather.Goals as goal
use Rattle.program_places.proofs.gather.Goals.{Else-len-eq0, In-Program}

pub loop-e-init : goal.loop-e-init
loop-e-init c =
    let z = c.requires.ats_value in
    listed_start _ c.args.ats.now c.args.lens.now c.args.from.now c.args.widths.now c.requires.catalogue_bound z.0 z.1 z.2 z.3

pub returns-then-len-eq0 : goal.returns-then-len-eq0
returns-then-len-eq0 c =
    let l = c.loop-e in
    listed-all _ l.ats l.lens l.from l.widths l.count l.at _ _ c.entry_at-e.ensures c.size-len.ensures l.invariant c.if-len-eq0.true

-- ---- in a step of the loop

-- the entry is within the catalogue
within : (c : Else-len-eq0) → c.loop-e.at + c.size-len.result ≤ length c.args.catalogue.now
within c = turn-within _ _ _ _ c.entry_at-e.ensures c.size-len.ensures c.if-len-eq0.false

-- the entry is a program's, and there is room for it
room : (c : In-Program) → c.loop-e.count < 1024
room c =
    let l = c.loop-e in
    listed-room _ l.ats l.lens l.from l.widths l.count l.at _ _ c.entry_at-e.ensures c.size-len.ensures l.invariant c.if-len-eq0.false c.in-Program.id c.in-Program.field-1 c.in-Program.is

pub overflow_add-at : goal.overflow_add-at
overflow_add-at c = omega (arith, within c)

pub offset_bounds-ats-count : goal.offset_bounds-ats-count
offset_bounds-ats-count c = omega (arith, room (goal.at.offset_bounds-ats-count c).In-Program)

pub bounds-ats-count : goal.bounds-ats-count
bounds-ats-count c = room (goal.at.bounds-ats-count c).In-Program

pub offset_bounds-lens-count : goal.offset_bounds-lens-count
offset_bounds-lens-count c = omega (arith, room (goal.at.offset_bounds-lens-count c).In-Program)

pub bounds-lens-count : goal.bounds-lens-count
bounds-lens-count c = room (goal.at.bounds-lens-count c).In-Program

pub offset_bounds-from-count : goal.offset_bounds-from-count
offset_bounds-from-count c = omega (arith, room (goal.at.offset_bounds-from-count c).In-Program)

pub bounds-from-count : goal.bounds-from-count
bounds-from-count c = room (goal.at.bounds-from-count c).In-Program

pub offset_bounds-widths-count : goal.offset_bounds-widths-count
offset_bounds-widths-count c = omega (arith, room (goal.at.offset_bounds-widths-count c).In-Program)

pub bounds-widths-count : goal.bounds-widths-count
bounds-widths-count c = room (goal.at.bounds-widths-count c).In-Program

pub overflow_add-count : goal.overflow_add-count
overflow_add-count c = omega (arith, room (goal.at.overflow_add-count c).In-Program)

pub loop-e-smaller-in-Program : goal.loop-e-smaller-in-Program
loop-e-smaller-in-Program c = omega (arith, within (goal.at.loop-e-smaller-in-Program c).Else-len-eq0, c.if-len-eq0.false)

pub loop-e-preserved-in-Program : goal.loop-e-preserved-in-Program
loop-e-preserved-in-Program c =
    let l = c.loop-e in
    listed_more _ l.ats l.lens l.from l.widths l.count l.at _ _ c.entry_at-e.ensures c.size-len.ensures l.invariant c.if-len-eq0.false c.in-Program.id c.in-Program.field-1 c.in-Program.is
    c.find_previous-previous.result c.find_previous-previous.ensures

pub loop-e-smaller : goal.loop-e-smaller
loop-e-smaller c = omega (arith, within (goal.at.loop-e-smaller c).Else-len-eq0, c.if-len-eq0.false)

pub loop-e-preserved : goal.loop-e-preserved
loop-e-preserved c =
    let l = c.loop-e in
    listed-other _ l.ats l.lens l.from l.widths l.count l.at _ _ c.entry_at-e.ensures c.size-len.ensures l.invariant c.if-len-eq0.false c.in_default.not-Program
