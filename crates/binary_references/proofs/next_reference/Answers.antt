-- `binary_references::next_reference` meets its contract: the list from the start on is the list of the lines still to come.
use Prim.Native.Nat.{◌+◌, ◌-◌}
use mathlib.Core.Path.{refl, sym, ap, ◌∙◌}
use native.Mathlib.Omega.{arith}
use lib.ListN.{drop, length-take}
use Rattle.format.specs.Records.{line}
use Rattle.byte_slices.specs.First.{first_line}
use Rattle.byte_slices.proofs.Before.{rest}
use Rattle.binary_references.specs.Next.{sq_from, told_reference, told_list, next_from}
use Rattle.binary_references.proofs.Next.{lent, Turn, turn, sq-none, next-none, IsSq, sq-line, sq-other, sq-never}
use Rattle.binary_references.proofs.next_reference.Goals as goal
use Rattle.binary_references.proofs.next_reference.Goals.{After-first_line-cut, In-ReferenceSequence}

-- the line of a step
turned : (c : After-first_line-cut) → (let a = c.args in Turn a.strict a.text.now c.loop-at.at c.first_line-cut.result)
turned c =
    let a = c.args in
    turn a.strict a.text.now c.loop-at.at c.loop-at-test.true c.first_line-cut.result (c.first_line-cut.ensures ∙ ap first_line (rest c.loop-at.at a.text.now))

-- its head, where it is an SQ
sequence : (c : In-ReferenceSequence)
    → let a = c.args in
    IsSq a.text.now c.in-ReferenceSequence.name c.in-ReferenceSequence.n (line a.strict (record { at = c.loop-at.at; bytes = lent a.text.now c.loop-at.at c.first_line-cut.result.len }))
sequence c =
    let a = c.args in
    sq-line a.strict a.text.now (record { at = c.loop-at.at; bytes = lent a.text.now c.loop-at.at c.first_line-cut.result.len }) (turned (goal.at.In-ReferenceSequence c).After-first_line-cut).stands
    c.in-ReferenceSequence.name c.in-ReferenceSequence.n c.in-ReferenceSequence.field-2 (sym c.parse_record-head.ensures ∙ c.in-ReferenceSequence.is)

pub loop-at-init : goal.loop-at-init
loop-at-init c = (omega arith, c.requires.start_in_bounds, refl, refl)

pub slice_bounds-first_line-count : goal.slice_bounds-first_line-count
slice_bounds-first_line-count c = omega arith

pub slice_bounds-first_line-start : goal.slice_bounds-first_line-start
slice_bounds-first_line-start c = omega arith

pub slice_bounds-first_line-end : goal.slice_bounds-first_line-end
slice_bounds-first_line-end c = omega arith

pub overflow_add-end : goal.overflow_add-end
overflow_add-end c = omega (arith, turned (goal.at.overflow_add-end c).After-first_line-cut)

pub overflow_add-next : goal.overflow_add-next
overflow_add-next c = omega (arith, turned (goal.at.overflow_add-next c).After-first_line-cut)

pub slice_bounds-may_be_sq-count : goal.slice_bounds-may_be_sq-count
slice_bounds-may_be_sq-count c = omega arith

pub slice_bounds-may_be_sq-start : goal.slice_bounds-may_be_sq-start
slice_bounds-may_be_sq-start c = omega arith

pub slice_bounds-may_be_sq-end : goal.slice_bounds-may_be_sq-end
slice_bounds-may_be_sq-end c = omega (arith, turned (goal.at.slice_bounds-may_be_sq-end c).After-first_line-cut)

pub slice_bounds-parse_record-count : goal.slice_bounds-parse_record-count
slice_bounds-parse_record-count c = omega arith

pub slice_bounds-parse_record-start : goal.slice_bounds-parse_record-start
slice_bounds-parse_record-start c = omega arith

pub slice_bounds-parse_record-end : goal.slice_bounds-parse_record-end
slice_bounds-parse_record-end c = omega (arith, turned (goal.at.slice_bounds-parse_record-end c).After-first_line-cut)

pub parse_record-head-requires : goal.parse_record-head-requires
parse_record-head-requires c =
    omega (arith, (turned (goal.at.parse_record-head-requires c).After-first_line-cut).inside, length-take (c.loop-at.at + c.first_line-cut.result.len - c.loop-at.at) (drop c.loop-at.at c.args.text.now), c.requires.text_len_bound)

pub overflow_cast-result : goal.overflow_cast-result
overflow_cast-result c = omega (arith, (sequence c).small)

pub returns-in-ReferenceSequence : goal.returns-in-ReferenceSequence
unfolding told_list told_reference
returns-in-ReferenceSequence c =
    let n = sequence c in
    let u = turned (goal.at.returns-in-ReferenceSequence c).After-first_line-cut in record {
      list = c.loop-at.invariant.2 ∙ u.list ∙ n.list (sq_from c.args.strict c.args.text.now (c.loop-at.at + c.first_line-cut.result.next));
      place = record {
        is = sym (c.loop-at.invariant.3 ∙ u.next ∙ n.next (c.loop-at.at + c.first_line-cut.result.next) (next_from c.args.strict c.args.text.now (c.loop-at.at + c.first_line-cut.result.next)));
        found = record {
          name = n.inside;
          small = n.small;
          onward = omega (arith, c.loop-at.invariant.0, u.onward);
          within = u.within;
        };
      };
    }

pub loop-at-smaller-in_default : goal.loop-at-smaller-in_default
loop-at-smaller-in_default c = omega (arith, turned (goal.at.loop-at-smaller-in_default c).After-first_line-cut)

pub loop-at-preserved-in_default : goal.loop-at-preserved-in_default
loop-at-preserved-in_default c =
    let a = c.args in
    let other = sq-other (line a.strict (record { at = c.loop-at.at; bytes = lent a.text.now c.loop-at.at c.first_line-cut.result.len })) c.parse_record-head.result c.parse_record-head.ensures c.in_default.not-ReferenceSequence in
    let u = turned (goal.at.loop-at-preserved-in_default c).After-first_line-cut in (
      omega (arith, c.loop-at.invariant.0),
      u.within,
      c.loop-at.invariant.2
          ∙ u.list
          ∙ other.list (sq_from a.strict a.text.now (c.loop-at.at + c.first_line-cut.result.next)),
      c.loop-at.invariant.3
          ∙ u.next
          ∙ other.next (c.loop-at.at + c.first_line-cut.result.next) (next_from a.strict a.text.now (c.loop-at.at + c.first_line-cut.result.next)),
    )

pub loop-at-smaller : goal.loop-at-smaller
loop-at-smaller c = omega (arith, turned (goal.at.loop-at-smaller c).After-first_line-cut)

pub loop-at-preserved : goal.loop-at-preserved
loop-at-preserved c =
    let a = c.args in
    let other = sq-never a.strict (record { at = c.loop-at.at; bytes = lent a.text.now c.loop-at.at c.first_line-cut.result.len }) (sym c.may_be_sq.ensures ∙ c.if-may_be_sq.false) in
    let u = turned (goal.at.loop-at-preserved c).After-first_line-cut in (
      omega (arith, c.loop-at.invariant.0),
      u.within,
      c.loop-at.invariant.2
          ∙ u.list
          ∙ other.list (sq_from a.strict a.text.now (c.loop-at.at + c.first_line-cut.result.next)),
      c.loop-at.invariant.3
          ∙ u.next
          ∙ other.next (c.loop-at.at + c.first_line-cut.result.next) (next_from a.strict a.text.now (c.loop-at.at + c.first_line-cut.result.next)),
    )

pub returns : goal.returns
unfolding told_list
returns c =
    let a = c.args in record {
      list = c.loop-at.invariant.2 ∙ sq-none a.strict a.text.now c.loop-at.at c.loop-at-test.false;
      place = record { is = sym (c.loop-at.invariant.3 ∙ next-none a.strict a.text.now c.loop-at.at c.loop-at-test.false); found = tt };
    }
