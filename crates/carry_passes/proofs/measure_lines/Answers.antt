-- `carry_passes::measure_lines` meets its contract: what is asked of the lines from the first kept on is asked of those still to come.
use Prim.Native.Nat.{ℕ, ◌+◌, ◌-◌, ◌≤◌}
use mathlib.Core.Path.{◌≡◌, refl, sym, ap, ap₂, ◌∙◌}
use native.Mathlib.Omega.{arith}
use lib.ListN.{length, drop}
use Rattle.format.specs.Tidy.{tidy}
use Rattle.tidy_sizes.specs.Numbers.{get}
use Rattle.tidy_sizes.specs.declared.PerKind.{PerKind}
use Rattle.tidy_text.specs.Sizes.{sizes_of}
use Rattle.tidy_text.proofs.Total.{size}
use Rattle.tidy_text.proofs.Sizes.{get_none, size_none, each-get}
use Rattle.format.specs.Carrying.{kept_of, unwritable_line}
use Rattle.carry_passes.specs.From.{lines_kept_from, kept_from, skipped_from}
use Rattle.carry_passes.specs.NextLine.{Turn}
use Rattle.carry_passes.proofs.Split.{first_small}
use Rattle.carry_passes.proofs.Begun.{begun}
use Rattle.carry_passes.proofs.NextLine.{turn, kept-le, none_left, all-count}
use Rattle.carry_passes.proofs.Steps.{kind_at, turn-read}
use Rattle.carry_passes.specs.Measured.{kept_measured}
use Rattle.carry_passes.specs.declared.KeptSizes.{KeptSizes}
use Rattle.std.specs.Prelude.{Result, Ok}
use Rattle.format.specs.declared.LineNo.{LineNo}
use Rattle.carry_passes.proofs.MeasuredSteps.{names-bad, names_more, sizes-more, size_fits}
use Rattle.carry_passes.proofs.measure_lines.Goals as goal
use Rattle.carry_passes.proofs.measure_lines.Goals.{After-next_line-step, At-loop-c}

abbrev kept : PerKind → ℕ → Result KeptSizes LineNo
kept s n = Ok (record { sizes = s; skipped = n })

-- the line of a step
turned : (c : After-next_line-step)
    → (let a = c.args in
    Turn a.b.strict a.text.now a.b.at c.loop-c.c c.next_line-step.result.end c.next_line-step.result.refusal)
turned c =
    let l = c.loop-c in
    let a = c.args in
    turn a.b.strict a.text.now a.b.at l.area l.ids l.c l.invariant.0 c.loop-c-test.true c.next_line-step.result.end c.next_line-step.result.refusal
    c.next_line-step.ensures.end c.next_line-step.ensures.refusal

-- line numbers are small
small : (c : At-loop-c) → ((c.loop-c.c.kept ≤ c.loop-c.c.line) × (c.loop-c.c.line ≤ 16777216) × (c.args.b.line ≤ 16777216))
small c =
    let a = c.args in
    let l = c.loop-c in (
      kept-le a.b.strict a.text.now a.b.at l.area l.ids l.c l.invariant.0,
      omega (arith, l.invariant.0.slow, l.invariant.0.inside, c.requires.text_len_bound),
      omega (arith, c.requires.first.slow, c.requires.first.inside, c.requires.text_len_bound),
    )

pub new-sizes-requires : goal.new-sizes-requires
new-sizes-requires c = tt

pub loop-c-init : goal.loop-c-init
unfolding kept_from
loop-c-init c =
    let a = c.args in (
      begun a.text.now a.b _ a.area.now a.ids.now c.requires.first c.requires.fresh,
      ap (λ k. unwritable_line k (lines_kept_from a.text.now a.b)) (let z : a.b.line ≡ a.b.line + 0 = omega arith in z),
      (λ k. omega (arith, ap (get k) c.new-sizes.ensures, get_none k)),
      refl,
      refl,
    )

pub next_line-step-requires : goal.next_line-step-requires
next_line-step-requires c = record {
  text_len_bound = c.requires.text_len_bound;
  going = c.loop-c.invariant.0;
  at_in_bounds = c.loop-c-test.true;
}

pub slice_bounds-with_step-count : goal.slice_bounds-with_step-count
slice_bounds-with_step-count c = (turned (goal.at.slice_bounds-with_step-count c).After-next_line-step).start

pub slice_bounds-with_step-start : goal.slice_bounds-with_step-start
slice_bounds-with_step-start c = (turned (goal.at.slice_bounds-with_step-start c).After-next_line-step).start

pub slice_bounds-with_step-end : goal.slice_bounds-with_step-end
slice_bounds-with_step-end c = (turned (goal.at.slice_bounds-with_step-end c).After-next_line-step).inside

pub with_step-grown-requires : goal.with_step-grown-requires
with_step-grown-requires c =
    let a = c.args in
    let l = c.loop-c in
    let r = c.next_line-step.result in
    let u = turned (goal.at.with_step-grown-requires c).After-next_line-step in
    let j = kind_at a.b.strict a.text.now a.b.at l.c r.end in
    let fits : length (tidy (kept_from a.text.now a.b)) ≤ 16777217 = omega (arith, first_small a.text.now a.b c.requires.first, c.requires.text_len_bound) in record {
      src_value = turn-read a.b.strict a.text.now a.b.at l.c r.end r.refusal u;
      src_bound = omega (arith, u.size, u.inside, c.requires.text_len_bound);
      src_bound_2 = (λ z. size_fits a.b.strict a.text.now a.b.at l.c r.end r.refusal u z l.sizes (kept_from a.text.now a.b) (l.invariant.2 j) fits);
    }

pub overflow_cast-result : goal.overflow_cast-result
overflow_cast-result c = omega (arith, small (goal.at.overflow_cast-result c).At-loop-c)

pub overflow_add-result : goal.overflow_add-result
overflow_add-result c = omega (arith, small (goal.at.overflow_add-result c).At-loop-c)

pub shape_of-area-in_default : goal.shape_of-area-in_default
shape_of-area-in_default c = c.next_line-step.ensures.room ∙ c.loop-c.invariant.3

pub shape_of-ids-in_default : goal.shape_of-ids-in_default
shape_of-ids-in_default c = c.next_line-step.ensures.room2 ∙ c.loop-c.invariant.4

pub returns-in_default : goal.returns-in_default
unfolding kept_measured
returns-in_default c =
    let a = c.args in
    let l = c.loop-c in
    let r = c.next_line-step.result in
    let bad = names-bad a.b.strict a.text.now a.b.at l.c r.end r.refusal (turned (goal.at.returns-in_default c).After-next_line-step) l.sizes (sym c.with_step-grown.ensures ∙ c.in_default.is) (a.b.line + l.c.line) in record {
      measured = sym (ap (λ o. kept_measured o (sizes_of (kept_from a.text.now a.b)) (length (skipped_from a.text.now a.b))) (l.invariant.1 ∙ bad));
      room = c.next_line-step.ensures.room ∙ l.invariant.3;
    }

pub loop-c-smaller : goal.loop-c-smaller
loop-c-smaller c = omega (arith, c.loop-c-test.true, (turned (goal.at.loop-c-smaller c).After-next_line-step).onward, c.next_line-step.ensures.at)

pub loop-c-preserved : goal.loop-c-preserved
loop-c-preserved c =
    let a = c.args in
    let b = c.args.b in
    let l = c.loop-c in
    let w = c.next_line-step in
    let u = turned (goal.at.loop-c-preserved c).After-next_line-step in
    let s = c.in-Some.next in
    let ls = lines_kept_from a.text.now b in
    let on = c.next_line-step.ensures.line in
    let e = sym c.with_step-grown.ensures ∙ c.in-Some.is in (
      w.ensures.next,
      l.invariant.1
          ∙ names_more b.strict a.text.now b.at l.c w.result.end w.result.refusal u l.sizes s e (b.line + l.c.line)
          ∙ ap (λ k. unwritable_line k (drop (l.c.line + 1) ls)) (let z : b.line + l.c.line + 1 ≡ b.line + (l.c.line + 1) = omega arith in z)
          ∙ ap (λ k. unwritable_line (b.line + k) (drop k ls)) (sym on),
      (λ k. ap (λ m. get k s + size k (kept_of (drop m ls))) on ∙ sizes-more b.strict a.text.now b.at l.c w.result.end w.result.refusal u l.sizes s e k ∙ l.invariant.2 k),
      w.ensures.room ∙ l.invariant.3,
      w.ensures.room2 ∙ l.invariant.4,
    )

pub overflow_sub-skipped : goal.overflow_sub-skipped
overflow_sub-skipped c = (small (goal.at.overflow_sub-skipped c).At-loop-c).0

pub shape_of-area : goal.shape_of-area
shape_of-area c = c.loop-c.invariant.3

pub shape_of-ids : goal.shape_of-ids
shape_of-ids c = c.loop-c.invariant.4

pub returns : goal.returns
unfolding kept_measured sizes_of kept_of unwritable_line
returns c =
    let a = c.args in
    let l = c.loop-c in
    let rs = kept_from a.text.now a.b in
    let left = c.loop-c-test.false in
    let e = none_left a.b.strict a.text.now a.b.at l.area l.ids l.c l.invariant.0 left in
    let all : l.sizes ≡ sizes_of rs = each-get l.sizes (λ k. size k rs) (λ k. omega (arith, l.invariant.2 k, ap (λ ls. size k (kept_of ls)) e, ap length (size_none k))) in
    let count = all-count a.b.strict a.text.now a.b.at l.area l.ids l.c l.invariant.0 left a.b.line in record {
      measured = ap₂ kept all count
          ∙ sym (ap (λ o. kept_measured o (sizes_of rs) (length (skipped_from a.text.now a.b))) (l.invariant.1 ∙ ap (unwritable_line (a.b.line + l.c.line)) e));
      room = l.invariant.3;
    }
