-- `fault_programs::gather` meets its contract: the programs of the lines passed are in the arrays, and the faults of those still to come are
-- still to count.
use Prim.Native.Nat.{◌+◌, ◌-◌, ◌≤◌, ◌<◌}
use mathlib.Core.Path.{◌≡◌, refl, sym, ap, subst, ◌∙◌}
use native.Mathlib.Omega.{arith}
use lib.ListN.{length, take, drop}
use Rattle.format.specs.Reading.{of_kind}
use Rattle.format.specs.Programs.{programs, program_of}
use Rattle.format.specs.Carrying.{kept_of}
use Rattle.program_lines.proofs.Accepted.{fielded}
use Rattle.program_lines.specs.Found.{notes_of}
use Rattle.carry_passes.specs.From.{lines_kept_from, kept_from}
use Rattle.carry_passes.specs.NextLine.{lent_to, Turn}
use Rattle.carry_passes.proofs.Begun.{begun}
use Rattle.carry_passes.proofs.NextLine.{turn, none_left}
use Rattle.carry_passes.proofs.Steps.{turn-read}
use Rattle.fault_programs.specs.Plain.{plain_count}
use Rattle.fault_programs.proofs.KeptPrograms.{plain-judged, one-le, programs_in, programs-done, programs-same, programs-one, programs-more, programs-room, ReadProgram, is-program, line-says, turn-stands, Noting, noting-none, noting-more, noting-all, all-taken}
use Rattle.fault_programs.proofs.gather.Goals as goal
use Rattle.fault_programs.proofs.gather.Goals.{After-next_line-step, After-one_if-plain, Else-c-i}

-- the line of a step
turned : (c : After-next_line-step)
    → (let l = c.loop-c in let a = c.args in Turn a.b.strict a.text.now a.b.at l.c c.next_line-step.result.end c.next_line-step.result.refusal)
turned c =
    let l = c.loop-c in
    let a = c.args in
    turn a.b.strict a.text.now a.b.at l.area l.ids l.c l.invariant.0 c.loop-c-test.true c.next_line-step.result.end c.next_line-step.result.refusal
    c.next_line-step.ensures.end c.next_line-step.ensures.refusal

pub loop-c-init : goal.loop-c-init
unfolding programs kept_of of_kind
loop-c-init c =
    let a = c.args in (
      begun a.text.now a.b _ a.area.now a.ids.now c.requires.first c.requires.fresh,
      omega arith,
      omega arith,
      noting-none a.text.now,
      refl,
      refl,
    )

pub next_line-step-requires : goal.next_line-step-requires
next_line-step-requires c = record {
  text_len_bound = c.requires.text_len_bound;
  going = c.loop-c.invariant.0;
  at_in_bounds = c.loop-c-test.true;
}

pub slice_bounds-plain_fault-count : goal.slice_bounds-plain_fault-count
slice_bounds-plain_fault-count c = (turned (goal.at.slice_bounds-plain_fault-count c).After-next_line-step).start

pub slice_bounds-plain_fault-start : goal.slice_bounds-plain_fault-start
slice_bounds-plain_fault-start c = (turned (goal.at.slice_bounds-plain_fault-start c).After-next_line-step).start

pub slice_bounds-plain_fault-end : goal.slice_bounds-plain_fault-end
slice_bounds-plain_fault-end c = (turned (goal.at.slice_bounds-plain_fault-end c).After-next_line-step).inside

pub plain_fault-requires : goal.plain_fault-requires
plain_fault-requires c =
    let a = c.args in
    let l = c.loop-c in
    let r = c.next_line-step.result in
    let u = turned (goal.at.plain_fault-requires c).After-next_line-step in record {
      src_value = turn-read a.b.strict a.text.now a.b.at l.c r.end r.refusal u;
      src_bound = omega (arith, u.size, u.inside, c.requires.text_len_bound);
    }

pub one_if-plain-requires : goal.one_if-plain-requires
one_if-plain-requires c = tt

pub overflow_add-plain : goal.overflow_add-plain
overflow_add-plain c =
    let l = c.loop-c in
    omega (arith, l.invariant.2, l.invariant.0.slow, l.invariant.0.inside, c.requires.text_len_bound, c.one_if-plain.ensures, one-le c.plain_fault.result)

pub loop-c-smaller-then-c-i : goal.loop-c-smaller-then-c-i
loop-c-smaller-then-c-i c = omega (arith, c.loop-c-test.true, (turned (goal.at.loop-c-smaller-then-c-i c).After-next_line-step).onward, c.next_line-step.ensures.at)

-- the faults that are counted, one line further
counted : (c : After-one_if-plain)
    → (let l = c.loop-c in let a = c.args in let d = c.next_line-step.result.next in
    (l.plain + c.one_if-plain.result + plain_count (drop d.line (lines_kept_from a.text.now a.b)) ≡ plain_count (lines_kept_from a.text.now a.b)) × (l.plain + c.one_if-plain.result ≤ d.line))
counted c =
    let l = c.loop-c in
    let a = c.args in
    let b = c.args.b in
    let w = c.next_line-step in
    let u = turned (goal.at.After-one_if-plain c).After-next_line-step in
    let ls = lines_kept_from a.text.now b in
    let m = c.plain_fault.result in (
      omega (
        arith,
        l.invariant.1,
        c.one_if-plain.ensures,
        ap plain_count u.more,
        plain-judged b.strict a.text.now b.at l.c w.result.end w.result.refusal u m c.plain_fault.ensures (drop (l.c.line + 1) ls),
        ap (λ k. plain_count (drop k ls)) w.ensures.line,
      ),
      omega (arith, l.invariant.2, c.one_if-plain.ensures, one-le m, w.ensures.line),
    )

pub loop-c-preserved-then-c-i : goal.loop-c-preserved-then-c-i
loop-c-preserved-then-c-i c =
    let l = c.loop-c in
    let a = c.args in
    let b = c.args.b in
    let w = c.next_line-step in
    let u = turned (goal.at.loop-c-preserved-then-c-i c).After-next_line-step in
    let n = counted (goal.at.loop-c-preserved-then-c-i c).After-one_if-plain in (
      w.ensures.next,
      n.0,
      n.1,
      subst (λ ps. Noting a.text.now ps l.ats l.lens l.from l.widths)
          (sym (programs-same b.strict a.text.now b.at l.area l.ids l.c l.invariant.0 _ _ w.result.next w.ensures.next w.ensures.line u.judged u.more c.if-c-i.true))
          l.invariant.3,
      w.ensures.room ∙ l.invariant.4,
      w.ensures.room2 ∙ l.invariant.5,
    )

pub slice_bounds-places_of-count : goal.slice_bounds-places_of-count
slice_bounds-places_of-count c = (turned (goal.at.slice_bounds-places_of-count c).After-next_line-step).start

pub slice_bounds-places_of-start : goal.slice_bounds-places_of-start
slice_bounds-places_of-start c = (turned (goal.at.slice_bounds-places_of-start c).After-next_line-step).start

pub slice_bounds-places_of-end : goal.slice_bounds-places_of-end
slice_bounds-places_of-end c = (turned (goal.at.slice_bounds-places_of-end c).After-next_line-step).inside

-- the program of a step
one : (c : Else-c-i) → ReadProgram (turned (goal.at.Else-c-i c).After-next_line-step).judged
one c =
    let l = c.loop-c in
    let a = c.args in
    let b = c.args.b in
    let w = c.next_line-step in
    let u = turned (goal.at.Else-c-i c).After-next_line-step in
    programs-one b.strict a.text.now b.at l.area l.ids l.c l.invariant.0 _ _ w.result.next w.ensures.next w.ensures.line u.judged u.more c.if-c-i.false

room : (c : Else-c-i) → c.loop-c.c.programs < 1024
room c =
    let l = c.loop-c in
    let a = c.args in
    let b = c.args.b in
    let w = c.next_line-step in
    let u = turned (goal.at.Else-c-i c).After-next_line-step in
    programs-room b.strict a.text.now b.at l.area l.ids l.c l.invariant.0 _ _ w.result.next w.ensures.next w.ensures.line u.judged u.more c.if-c-i.false

pub places_of-noted-requires : goal.places_of-noted-requires
places_of-noted-requires c =
    let a = c.args in
    let l = c.loop-c in
    let w = c.next_line-step in
    let u = turned (goal.at.places_of-noted-requires c).After-next_line-step in
    let p = one (goal.at.places_of-noted-requires c).Else-c-i in
    fielded a.b.strict _ p.is (is-program a.b.strict a.text.now a.b.at l.c w.result.end w.result.refusal u p) (omega (arith, u.size, u.inside, c.requires.text_len_bound))

pub offset_bounds-ats-i : goal.offset_bounds-ats-i
offset_bounds-ats-i c = omega (arith, room (goal.at.offset_bounds-ats-i c).Else-c-i)

pub bounds-ats-i : goal.bounds-ats-i
bounds-ats-i c = omega (arith, room (goal.at.bounds-ats-i c).Else-c-i)

pub offset_bounds-lens-i : goal.offset_bounds-lens-i
offset_bounds-lens-i c = omega (arith, room (goal.at.offset_bounds-lens-i c).Else-c-i)

pub bounds-lens-i : goal.bounds-lens-i
bounds-lens-i c = omega (arith, room (goal.at.bounds-lens-i c).Else-c-i)

pub offset_bounds-from-i : goal.offset_bounds-from-i
offset_bounds-from-i c = omega (arith, room (goal.at.offset_bounds-from-i c).Else-c-i)

pub bounds-from-i : goal.bounds-from-i
bounds-from-i c = omega (arith, room (goal.at.bounds-from-i c).Else-c-i)

pub offset_bounds-widths-i : goal.offset_bounds-widths-i
offset_bounds-widths-i c = omega (arith, room (goal.at.offset_bounds-widths-i c).Else-c-i)

pub bounds-widths-i : goal.bounds-widths-i
bounds-widths-i c = omega (arith, room (goal.at.bounds-widths-i c).Else-c-i)

pub loop-c-smaller : goal.loop-c-smaller
loop-c-smaller c = omega (arith, c.loop-c-test.true, (turned (goal.at.loop-c-smaller c).After-next_line-step).onward, c.next_line-step.ensures.at)

pub loop-c-preserved : goal.loop-c-preserved
unfolding notes_of
loop-c-preserved c =
    let l = c.loop-c in
    let a = c.args in
    let b = c.args.b in
    let t = c.args.text.now in
    let w = c.next_line-step in
    let u = turned (goal.at.loop-c-preserved c).After-next_line-step in
    let p = one (goal.at.loop-c-preserved c).Else-c-i in
    let i = is-program b.strict t b.at l.c w.result.end w.result.refusal u p in
    let n = counted (goal.at.loop-c-preserved c).After-one_if-plain in (
      w.ensures.next,
      n.0,
      n.1,
      noting-more t (programs_in (take l.c.line (lines_kept_from t b))) l.ats l.lens l.from l.widths l.c.programs l.invariant.3
          (programs-done b.strict t b.at l.area l.ids l.c l.invariant.0) (room (goal.at.loop-c-preserved c).Else-c-i)
          (notes_of (record { at = l.c.at; bytes = lent_to t l.c.at w.result.end })) (program_of p.is)
          (line-says b.strict t _ p.is i (turn-stands b.strict t b.at l.c w.result.end w.result.refusal u))
          c.places_of-noted.result.id c.places_of-noted.result.previous c.places_of-noted.ensures.0 c.places_of-noted.ensures.1 _
          (programs-more b.strict t b.at l.area l.ids l.c l.invariant.0 _ _ w.result.next w.ensures.next w.ensures.line u.judged u.more p),
      w.ensures.room ∙ l.invariant.4,
      w.ensures.room2 ∙ l.invariant.5,
    )

pub shape_of-area : goal.shape_of-area
shape_of-area c = c.loop-c.invariant.4

pub shape_of-ids : goal.shape_of-ids
shape_of-ids c = c.loop-c.invariant.5

pub returns : goal.returns
unfolding kept_from plain_count
returns c =
    let l = c.loop-c in
    let a = c.args in
    let b = c.args.b in
    let t = c.args.text.now in
    let ls = lines_kept_from t b in
    let e = none_left b.strict t b.at l.area l.ids l.c l.invariant.0 c.loop-c-test.false in
    let all : take l.c.line ls ≡ ls = all-taken l.c.line ls e in record {
      programs = noting-all t (programs_in ls) l.ats l.lens l.from l.widths l.c.programs
          (subst (λ xs. Noting t (programs_in xs) l.ats l.lens l.from l.widths) all l.invariant.3)
          (programs-done b.strict t b.at l.area l.ids l.c l.invariant.0 ∙ ap (λ xs. length (programs_in xs)) all) l.invariant.0.few;
      plain = omega (arith, l.invariant.1, ap plain_count e);
      room = l.invariant.4;
    }
