-- `carry_early::find_first` meets its contract: what is asked of the whole text is asked of the lines still to come.
use Prim.Native.Nat.{ℕ, ◌≤◌, ◌<◌}
use mathlib.Core.Path.{◌≡◌, refl, sym, ap, ◌∙◌}
use mathlib.Core.List.{List, []}
use native.Mathlib.Omega.{arith}
use lib.ListN.{length}
use Rattle.format.specs.Lines.{lines}
use Rattle.accepted.proofs.Ahead.{ahead, ahead-one, ahead_none}
use Rattle.carry_early.specs.Early.{early_from, early_of}
use Rattle.carry_early.specs.First.{start_of}
use Rattle.carry_early.proofs.Early.{early-within, early-kept, early-skipped}
use Rattle.carry_early.proofs.find_first.Goals as goal
use Rattle.carry_early.proofs.find_first.Goals.{After-judge_early-early}

-- where the lines still to come start
start : (t : List ℕ) (at : ℕ) → at < length t → at ≡ start_of (length t) (ahead t at)
unfolding start_of
start t at h = sym (ap (start_of (length t)) (ahead-one t at h))

end : (t : List ℕ) (at : ℕ) → at ≤ length t → length t ≤ at → at ≡ start_of (length t) (ahead t at)
unfolding start_of
end t at h k = let e : at ≡ length t = omega arith in e ∙ sym (ap (start_of (length t)) (ahead_none t at k))

-- the next line starts after this one
onward : (j : After-judge_early-early) → ((j.loop-at.at < j.judge_early-early.result.next) × (j.judge_early-early.result.next ≤ length j.args.text.now))
onward j =
    let e = j.judge_early-early.ensures in
    early-within j.args.text.now j.loop-at.at j.loop-at.strict j.loop-at-test.true _ _ _ e.strict e.refusal e.next

pub loop-at-init : goal.loop-at-init
unfolding early_of lines
loop-at-init c = record { inside = omega arith; slow = omega arith; rest = refl; rule = refl; count = omega arith }

pub judge_early-early-requires : goal.judge_early-early-requires
judge_early-early-requires c = record {
  text_len_bound = c.requires;
  at_in_bounds = c.loop-at-test.true;
}

pub returns-then-early-eq0 : goal.returns-then-early-eq0
returns-then-early-eq0 c =
    let t = c.args.text.now in
    let i = c.loop-at.invariant in
    let e = c.judge_early-early.ensures in
    let k = early-kept t c.loop-at.at c.loop-at.strict c.loop-at-test.true _ _ _ e.strict e.refusal e.next c.if-early-eq0.true in
    let rest = sym (ap (λ x. x.rest) k) ∙ i.rest in
    record {
      place = start t c.loop-at.at c.loop-at-test.true ∙ ap (start_of (length t)) rest;
      inside = i.inside;
      rest = rest;
      line = omega (arith, i.count, ap (λ x. length x.refusals) k);
      slow = i.slow;
      strict = sym (ap (λ x. x.strict) k) ∙ i.rule;
    }

pub overflow_add-line : goal.overflow_add-line
overflow_add-line c =
    omega (arith, c.loop-at.invariant.slow, c.loop-at.invariant.inside, c.requires)

pub loop-at-smaller : goal.loop-at-smaller
loop-at-smaller c = omega (arith, onward (goal.at.loop-at-smaller c).After-judge_early-early)

pub loop-at-preserved : goal.loop-at-preserved
loop-at-preserved c =
    let i = c.loop-at.invariant in
    let e = c.judge_early-early.ensures in
    let k = early-skipped c.args.text.now c.loop-at.at c.loop-at.strict c.loop-at-test.true _ _ _ e.strict e.refusal e.next c.if-early-eq0.false in
    record {
      inside = (onward (goal.at.loop-at-preserved c).After-judge_early-early).1;
      slow = omega (arith, i.slow, onward (goal.at.loop-at-preserved c).After-judge_early-early);
      rest = sym (ap (λ x. x.rest) k) ∙ i.rest;
      rule = sym (ap (λ x. x.strict) k) ∙ i.rule;
      count = omega (arith, i.count, ap (λ x. length x.refusals) k);
    }

pub returns : goal.returns
unfolding early_from
returns c =
    let t = c.args.text.now in
    let i = c.loop-at.invariant in
    let none = ahead_none t c.loop-at.at c.loop-at-test.false in
    let e : early_from c.loop-at.strict (ahead t c.loop-at.at) ≡ record { refusals = []; strict = c.loop-at.strict; rest = [] } = ap (early_from c.loop-at.strict) none in
    let rest = none ∙ sym (ap (λ x. x.rest) e) ∙ i.rest in
    record {
      place = end t c.loop-at.at i.inside c.loop-at-test.false ∙ ap (start_of (length t)) rest;
      inside = i.inside;
      rest = rest;
      line = omega (arith, i.count, ap (λ x. length x.refusals) e);
      slow = i.slow;
      strict = sym (ap (λ x. x.strict) e) ∙ i.rule;
    }
