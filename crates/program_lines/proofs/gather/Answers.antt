-- `program_lines::gather` meets its contract: the lines that are in the arrays, and those from `at` on, are all.
use Prim.Native.Nat.{◌<◌}
use native.Mathlib.Omega.{arith}
use mathlib.Core.Path.{◌≡◌, ap, subst, ◌∙◌}
use Rattle.std.specs.Prelude.{Some, IfSome}
use Rattle.program_lines.specs.Found.{pg_from, told_lines, NextLineInText}
use Rattle.program_lines.proofs.Listed.{listed-none, listed-all, listed-room, listed-fields, listed_more}
use Rattle.program_lines.proofs.gather.Goals as goal
use Rattle.program_lines.proofs.gather.Goals.{In-Some}

-- what the line of a step is
told : (c : In-Some) → pg_from c.args.text.now c.loop-p.at ≡ told_lines c.args.text.now (Some c.in-Some.p)
told c = c.next_program.ensures.list ∙ ap (told_lines c.args.text.now) c.in-Some.is

placed : (c : In-Some) → NextLineInText c.args.text.now c.loop-p.at c.in-Some.p
placed c = subst (λ o. IfSome o (NextLineInText c.args.text.now c.loop-p.at)) c.in-Some.is c.next_program.ensures.place

room : (c : In-Some) → c.loop-p.count < 1024
room c =
    let l = c.loop-p in
    let r = c.in-Some.p in
    listed-room _ _ l.starts l.sizes l.ats l.lens l.from l.widths l.count l.at l.invariant r (told c) (placed c)

pub loop-p-init : goal.loop-p-init
loop-p-init c = listed-none c.args.text.now c.args.strict c.requires.text_value c.requires.reads_by

pub next_program-requires : goal.next_program-requires
next_program-requires c = c.loop-p.invariant.within

pub overflow_add-end : goal.overflow_add-end
overflow_add-end c = omega (arith, (placed (goal.at.overflow_add-end c).In-Some).line, c.loop-p.invariant.fits)

pub slice_bounds-places_of-count : goal.slice_bounds-places_of-count
slice_bounds-places_of-count c = omega arith

pub slice_bounds-places_of-start : goal.slice_bounds-places_of-start
slice_bounds-places_of-start c = omega arith

pub slice_bounds-places_of-end : goal.slice_bounds-places_of-end
slice_bounds-places_of-end c = omega (arith, (placed (goal.at.slice_bounds-places_of-end c).In-Some).line)

pub places_of-noted-requires : goal.places_of-noted-requires
places_of-noted-requires c =
    let l = c.loop-p in
    let r = c.in-Some.p in
    listed-fields _ _ l.starts l.sizes l.ats l.lens l.from l.widths l.count l.at l.invariant r (told (goal.at.places_of-noted-requires c).In-Some) (placed (goal.at.places_of-noted-requires c).In-Some)

pub overflow_cast-starts : goal.overflow_cast-starts
overflow_cast-starts c = omega (arith, (placed (goal.at.overflow_cast-starts c).In-Some).line, c.loop-p.invariant.fits)

pub offset_bounds-starts-count : goal.offset_bounds-starts-count
offset_bounds-starts-count c = omega (arith, room (goal.at.offset_bounds-starts-count c).In-Some)

pub bounds-starts-count : goal.bounds-starts-count
bounds-starts-count c = room (goal.at.bounds-starts-count c).In-Some

pub overflow_cast-sizes : goal.overflow_cast-sizes
overflow_cast-sizes c = omega (arith, (placed (goal.at.overflow_cast-sizes c).In-Some).line, c.loop-p.invariant.fits)

pub offset_bounds-sizes-count : goal.offset_bounds-sizes-count
offset_bounds-sizes-count c = omega (arith, room (goal.at.offset_bounds-sizes-count c).In-Some)

pub bounds-sizes-count : goal.bounds-sizes-count
bounds-sizes-count c = room (goal.at.bounds-sizes-count c).In-Some

pub offset_bounds-ats-count : goal.offset_bounds-ats-count
offset_bounds-ats-count c = omega (arith, room (goal.at.offset_bounds-ats-count c).In-Some)

pub bounds-ats-count : goal.bounds-ats-count
bounds-ats-count c = room (goal.at.bounds-ats-count c).In-Some

pub offset_bounds-lens-count : goal.offset_bounds-lens-count
offset_bounds-lens-count c = omega (arith, room (goal.at.offset_bounds-lens-count c).In-Some)

pub bounds-lens-count : goal.bounds-lens-count
bounds-lens-count c = room (goal.at.bounds-lens-count c).In-Some

pub offset_bounds-from-count : goal.offset_bounds-from-count
offset_bounds-from-count c = omega (arith, room (goal.at.offset_bounds-from-count c).In-Some)

pub bounds-from-count : goal.bounds-from-count
bounds-from-count c = room (goal.at.bounds-from-count c).In-Some

pub offset_bounds-widths-count : goal.offset_bounds-widths-count
offset_bounds-widths-count c = omega (arith, room (goal.at.offset_bounds-widths-count c).In-Some)

pub bounds-widths-count : goal.bounds-widths-count
bounds-widths-count c = room (goal.at.bounds-widths-count c).In-Some

pub overflow_add-count : goal.overflow_add-count
overflow_add-count c = omega (arith, room (goal.at.overflow_add-count c).In-Some)

pub loop-p-smaller : goal.loop-p-smaller
loop-p-smaller c =
    let r = c.in-Some.p in
    omega (arith, (placed (goal.at.loop-p-smaller c).In-Some).onward, (placed (goal.at.loop-p-smaller c).In-Some).within)

pub loop-p-preserved : goal.loop-p-preserved
loop-p-preserved c =
    let l = c.loop-p in
    let r = c.in-Some.p in
    listed_more _ _ l.starts l.sizes l.ats l.lens l.from l.widths l.count l.at l.invariant r (told (goal.at.loop-p-preserved c).In-Some) (placed (goal.at.loop-p-preserved c).In-Some)
    c.places_of-noted.result.id c.places_of-noted.result.previous c.places_of-noted.ensures.0 c.places_of-noted.ensures.1

pub returns : goal.returns
returns c =
    let l = c.loop-p in
    let all = listed-all _ _ l.starts l.sizes l.ats l.lens l.from l.widths l.count l.at l.invariant (c.next_program.ensures.list ∙ ap (told_lines c.args.text.now) c.in_default.is) in
    record { programs = all.0; lines = all.1 }
