-- `program_lines::next_program` meets its contract: the lines from the start on are those still to come.
use mathlib.Core.Path.{refl, sym, ap, ◌∙◌}
use native.Mathlib.Omega.{arith}
use Rattle.byte_slices.specs.First.{first_line}
use Rattle.byte_slices.proofs.Before.{rest}
use Rattle.program_lines.specs.Found.{told_line, told_lines}
use Rattle.program_lines.proofs.Next.{Turn, turn, pg-none}
use Rattle.program_lines.proofs.next_program.Goals as goal
use Rattle.program_lines.proofs.next_program.Goals.{After-first_line-cut}

-- the line of a step
turned : (c : After-first_line-cut) → (let a = c.args in Turn a.text.now c.loop-at.at c.first_line-cut.result)
turned c =
    let a = c.args in
    turn a.text.now c.loop-at.at c.loop-at-test.true c.first_line-cut.result (c.first_line-cut.ensures ∙ ap first_line (rest c.loop-at.at a.text.now))

pub loop-at-init : goal.loop-at-init
loop-at-init c = (omega arith, c.requires, refl)

pub slice_bounds-first_line-count : goal.slice_bounds-first_line-count
slice_bounds-first_line-count c = omega arith

pub slice_bounds-first_line-start : goal.slice_bounds-first_line-start
slice_bounds-first_line-start c = omega arith

pub slice_bounds-first_line-end : goal.slice_bounds-first_line-end
slice_bounds-first_line-end c = omega arith

pub overflow_add-end : goal.overflow_add-end
overflow_add-end c = omega (arith, turned (goal.at.overflow_add-end c).After-first_line-cut)

pub overflow_add-next : goal.overflow_add-next
overflow_add-next c = omega (arith, turned (goal.at.overflow_add-next c).After-first_line-cut)

pub slice_bounds-may_be_program-count : goal.slice_bounds-may_be_program-count
slice_bounds-may_be_program-count c = omega arith

pub slice_bounds-may_be_program-start : goal.slice_bounds-may_be_program-start
slice_bounds-may_be_program-start c = omega arith

pub slice_bounds-may_be_program-end : goal.slice_bounds-may_be_program-end
slice_bounds-may_be_program-end c = omega (arith, turned (goal.at.slice_bounds-may_be_program-end c).After-first_line-cut)

pub returns-then-may_be_program : goal.returns-then-may_be_program
unfolding told_lines told_line
returns-then-may_be_program c =
    let u = turned (goal.at.returns-then-may_be_program c).After-first_line-cut in record {
      list = c.loop-at.invariant.2 ∙ u.first (sym c.may_be_program.ensures ∙ c.if-may_be_program.true);
      place = record { line = u.inside; onward = omega (arith, c.loop-at.invariant.0, u.onward); within = u.within };
    }

pub loop-at-smaller : goal.loop-at-smaller
loop-at-smaller c = omega (arith, turned (goal.at.loop-at-smaller c).After-first_line-cut)

pub loop-at-preserved : goal.loop-at-preserved
loop-at-preserved c =
    let u = turned (goal.at.loop-at-preserved c).After-first_line-cut in
    (omega (arith, c.loop-at.invariant.0), u.within, c.loop-at.invariant.2 ∙ u.other (sym c.may_be_program.ensures ∙ c.if-may_be_program.false))

pub returns : goal.returns
unfolding told_lines
returns c =
    let a = c.args in
    record { list = c.loop-at.invariant.2 ∙ pg-none a.text.now c.loop-at.at c.loop-at-test.false; place = tt }
