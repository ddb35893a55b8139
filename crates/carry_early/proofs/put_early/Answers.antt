-- `carry_early::put_early` meets its contract: what is written, and the rows of the lines still to come, is all.
use Prim.Native.Nat.{ℕ, ◌+◌, ◌*◌, ◌≤◌, ◌<◌}
use mathlib.Core.Path.{◌≡◌, refl, sym, ap, ◌∙◌}
use mathlib.Core.List.{List, [], ◌∷◌}
use native.Mathlib.Omega.{arith}
use lib.ListN.{length}
use Rattle.format.specs.Lines.{lines}
use Rattle.byte_slices.specs.Over.{over}
use Rattle.byte_slices.proofs.Over.{over_none, over-length, over-over}
use Rattle.accepted.proofs.Ahead.{ahead}
use Rattle.carry_early.specs.Early.{early_from, early_of, rows_from}
use Rattle.carry_early.proofs.Early.{early-within, early-some, early-ahead}
use Rattle.carry_early.proofs.put_early.Goals as goal
use Rattle.carry_early.proofs.put_early.Goals.{After-judge_early-early, In-loop-line}

pub loop-line-init : goal.loop-line-init
unfolding early_of lines
loop-line-init c = (omega arith, omega (arith, c.requires.count_value), refl, refl, omega arith)

-- there is a line ahead
more : (c : In-loop-line) → (c.loop-line.at < length c.args.text.now)
more c =
    early-ahead c.args.text.now c.loop-line.at c.loop-line.strict (omega (arith, c.loop-line-test.true, c.loop-line.invariant.1))

pub judge_early-early-requires : goal.judge_early-early-requires
judge_early-early-requires c = record {
  text_len_bound = c.requires.text_len_bound;
  at_in_bounds = more c;
}

-- the line is skipped, and the next one starts after it
skipped : (j : After-judge_early-early)
    → (let t = j.args.text.now in let r = j.judge_early-early.result in
    ((early_from j.loop-line.strict (ahead t j.loop-line.at)).refusals ≡ r.refusal ∷ (early_from r.strict (ahead t r.next)).refusals) × ((j.loop-line.at < r.next) × (r.next ≤ length t)))
skipped j =
    let t = j.args.text.now in
    let e = j.judge_early-early.ensures in (
      early-some t j.loop-line.at j.loop-line.strict (more (goal.at.After-judge_early-early j).In-loop-line) _ _ _ e.strict e.refusal e.next (omega (arith, j.loop-line.invariant.1, j.loop-line-test.true)),
      early-within t j.loop-line.at j.loop-line.strict (more (goal.at.After-judge_early-early j).In-loop-line) _ _ _ e.strict e.refusal e.next,
    )

pub overflow_cast-line : goal.overflow_cast-line
overflow_cast-line c =
    omega (arith, c.loop-line.invariant.1, c.requires.count_in_bounds)

pub put_row-requires : goal.put_row-requires
put_row-requires c =
    omega (arith, c.loop-line.invariant.1, c.loop-line.invariant.2, c.requires.count_in_bounds, ap length (skipped (goal.at.put_row-requires c).After-judge_early-early).0)

rows-length : (l : ℕ) (ns : List ℕ) → length (rows_from l ns) ≡ length ns * 2
unfolding rows_from
rows-length l [] = refl
rows-length l (n ∷ ns) = omega (arith, rows-length (l + 1) ns)

pub loop-line-preserved : goal.loop-line-preserved
unfolding rows_from
loop-line-preserved c =
    let i = c.loop-line.invariant in
    let k = skipped (goal.at.loop-line-preserved c).After-judge_early-early in
    let r = c.judge_early-early.result in
    let ns = (early_from r.strict (ahead c.args.text.now r.next)).refusals in
    let row = c.loop-line.line ∷ r.refusal ∷ [] in
    let room : c.loop-line.line * 2 + 2 + length (rows_from (c.loop-line.line + 1) ns) ≤ length c.loop-line.table =
    omega (arith, rows-length (c.loop-line.line + 1) ns, ap length k.0, i.1, i.2, c.requires.count_in_bounds) in (
      k.1.1,
      omega (arith, i.1, ap length k.0),
      ap length c.put_row.ensures ∙ over-length c.loop-line.table (c.loop-line.line * 2) row (omega (arith, room)) ∙ i.2,
      rw c.put_row.ensures
          (ap (λ n. over (over c.loop-line.table (c.loop-line.line * 2) row) n (rows_from (c.loop-line.line + 1) ns)) (let z : (c.loop-line.line + 1) * 2 ≡ c.loop-line.line * 2 + 2 = omega arith in z)
          ∙ over-over c.loop-line.table (c.loop-line.line * 2) row (rows_from (c.loop-line.line + 1) ns) room
          ∙ ap (λ ms. over c.loop-line.table (c.loop-line.line * 2) (rows_from c.loop-line.line ms)) (sym k.0)
          ∙ i.3),
      omega (arith, i.4, k.1),
    )

pub shape_of-table : goal.shape_of-table
shape_of-table c = c.loop-line.invariant.2

none : (ns : List ℕ) → length ns ≡ 0 → ns ≡ []
none [] h = refl
none (n ∷ ns) h = absurd (omega arith)

pub returns : goal.returns
unfolding rows_from
returns c =
    let ns = (early_from c.loop-line.strict (ahead c.args.text.now c.loop-line.at)).refusals in
    sym (over_none c.loop-line.table (c.loop-line.line * 2))
    ∙ ap (λ ms. over c.loop-line.table (c.loop-line.line * 2) (rows_from c.loop-line.line ms)) (sym (none ns (omega (arith, c.loop-line.invariant.1, c.loop-line-test.false))))
    ∙ c.loop-line.invariant.3
