-- `carry_early::judge_early` meets its contract: the line is cut, its rule is set, and it is judged by itself.
use Prim.Native.Nat.{◌+◌}
use mathlib.Core.Path.{ap, ◌∙◌}
use mathlib.Core.Bool.{false}
use mathlib.Core.List.{[], ◌∷◌}
use native.Mathlib.Omega.{arith}
use Rattle.format.specs.Records.{line}
use Rattle.format.specs.Reading.{announced}
use Rattle.accepted.specs.First.{first_at}
use Rattle.accepted.proofs.Ahead.{ahead-stands, Ahead, ahead-turn}
use Rattle.record.specs.Head.{head_of}
use Rattle.read_admission.specs.Admission.{barring}
use Rattle.read_repeat_rule.specs.Rule.{strict_after}
use Rattle.carry_early.proofs.Early.{barring-first}
use Rattle.carry_early.proofs.judge_early.Goals as goal
use Rattle.carry_early.proofs.judge_early.Goals.{After-first_line-cut}

-- the line ahead
turned : (f : After-first_line-cut) → (let a = f.args in Ahead a.text.now a.at f.first_line-cut.result)
turned f =
    ahead-turn f.args.text.now f.args.at f.requires.at_in_bounds f.first_line-cut.result f.first_line-cut.ensures

pub overflow_add-end : goal.overflow_add-end
overflow_add-end c = omega (arith, turned (goal.at.overflow_add-end c).After-first_line-cut)

pub slice_bounds-is_strict_after-end : goal.slice_bounds-is_strict_after-end
slice_bounds-is_strict_after-end c = omega (arith, turned (goal.at.slice_bounds-is_strict_after-end c).After-first_line-cut)

pub slice_bounds-parse_record-end : goal.slice_bounds-parse_record-end
slice_bounds-parse_record-end c = omega (arith, turned (goal.at.slice_bounds-parse_record-end c).After-first_line-cut)

pub parse_record-head-requires : goal.parse_record-head-requires
parse_record-head-requires c =
    let u = turned (goal.at.parse_record-head-requires c).After-first_line-cut in
    omega (arith, u.size, u.inside, c.requires.text_len_bound)

pub overflow_add-result : goal.overflow_add-result
overflow_add-result c = omega (arith, turned (goal.at.overflow_add-result c).After-first_line-cut)

pub returns : goal.returns
unfolding announced
returns c =
    let a = c.args in
    let u = turned (goal.at.returns c).After-first_line-cut in
    let rule = c.is_strict_after-rule.result in
    let head = c.parse_record-head.ensures ∙ ap (λ s. head_of (line rule (record { at = a.at; bytes = s }))) u.bytes in record {
      strict = c.is_strict_after-rule.ensures ∙ ap (λ s. strict_after a.strict (announced (record { at = a.at; bytes = s } ∷ []))) u.bytes;
      refusal = c.barred.ensures ∙ ap (barring false 0 0) head ∙ barring-first a.text.now rule (first_at a.at a.text.now) (ahead-stands a.text.now a.at c.requires.at_in_bounds);
      next = ap (λ k. a.at + k.next) u.cut;
    }
