-- `read_judge::first_met` meets its contract: what is left of the lines ahead decides.
use Prim.Native.Nat.{◌+◌, ◌-◌, ◌≤◌, ◌<◌}
use mathlib.Core.Path.{◌≡◌, refl, sym, ap, subst, ◌∙◌}
use native.Mathlib.Omega.{arith}
use lib.ListN.{length, take, drop, length-take, length-drop}
use Rattle.format.specs.Lines.{Piece, lines_from}
use Rattle.format.specs.Records.{line}
use Rattle.byte_slices.specs.First.{first_line}
use Rattle.byte_slices.proofs.First.{first-le, first-within, first_some}
use Rattle.byte_slices.proofs.Before.{rest}
use Rattle.accepted.proofs.Ahead.{ahead-stands}
use Rattle.record.specs.Head.{head_of}
use Rattle.key_index.specs.KeySlots.{is_found}
use Rattle.key_index.specs.Keyed.{KeyInText}
use Rattle.key_index.proofs.HeldKeys.{head-placed, entering-none}
use Rattle.key_index.specs.Counting.{too_many}
use Rattle.key_index.proofs.counting.Calm.{calm-few, busy-plain}
use Rattle.read_judge.specs.Blocks.{clash_of}
use Rattle.read_judge.proofs.Blocks.{clash-none, clash-here, clash-met, clash-on}
use Rattle.read_judge.proofs.first_met.Goals as goal
use Rattle.read_judge.proofs.first_met.Goals.{After-find_or_enter-found, After-first_line-cut, After-parse_record-head, At-loop-at}

-- ---- in a step of the loop

cut : (c : After-first_line-cut)
    → c.first_line-cut.result ≡ first_line (drop c.loop-at.at c.args.text.now)
cut c =
    c.first_line-cut.ensures ∙ ap first_line (rest c.loop-at.at c.args.text.now)

inside : (c : After-first_line-cut)
    → let t = c.args.text.now in
    (c.loop-at.at + c.first_line-cut.result.len ≤ length t) × (c.loop-at.at + c.first_line-cut.result.next ≤ length t) × (0 < c.first_line-cut.result.next)
inside c =
    let t = c.args.text.now in
    let d = length-drop c.loop-at.at t in
    let h : c.loop-at.at < length t = omega arith in
    let e = cut c in
    rw e (omega (arith, d, h, first-le (drop c.loop-at.at t), first-within (drop c.loop-at.at t)), omega (arith, d, h, first-within (drop c.loop-at.at t)), first_some (drop c.loop-at.at t) (omega (arith, d, h)))

piece : (c : After-first_line-cut) → Piece
piece c =
    let t = c.args.text.now in
    record { at = c.loop-at.at; bytes = take (first_line (drop c.loop-at.at t)).len (drop c.loop-at.at t) }

head-is : (c : After-parse_record-head)
    → c.parse_record-head.result ≡ head_of (line c.args.way.strict (piece (goal.at.After-parse_record-head c).After-first_line-cut))
unfolding piece
head-is c =
    let a = c.args in
    let n : c.loop-at.at + c.first_line-cut.result.len - c.loop-at.at ≡ c.first_line-cut.result.len = omega arith in
    c.parse_record-head.ensures ∙ ap (λ b. head_of (line a.way.strict (record { at = c.loop-at.at; bytes = take b (drop c.loop-at.at a.text.now) }))) (n ∙ ap (λ x. x.len) (cut (goal.at.After-parse_record-head c).After-first_line-cut))

placed-head : (c : After-parse_record-head)
    → KeyInText (length c.args.text.now) c.parse_record-head.result
unfolding piece
placed-head c =
    let a = c.args in
    subst (KeyInText (length a.text.now)) (sym (head-is c)) (head-placed a.way.strict a.text.now c.loop-at.at c.requires.text_len_bound (ahead-stands a.text.now c.loop-at.at (omega arith)))

-- what the slots say of it
met-is : (c : After-find_or_enter-found)
    → let a = c.args in
    c.find_or_enter-found.result.known ≡ is_found a.way.seed a.text.now a.area.now c.parse_record-head.result
met-is c =
    let a = c.args in
    c.find_or_enter-found.ensures.known ∙ ap (λ s. is_found a.way.seed a.text.now s c.parse_record-head.result) c.loop-at.invariant.2

-- and they stay
kept : (c : After-find_or_enter-found)
    → c.find_or_enter-found.new.area ≡ c.args.area.now
kept c =
    let a = c.args in
    c.find_or_enter-found.ensures.wrote ∙ entering-none a.way.seed a.text.now c.loop-at.area c.parse_record-head.result ∙ c.loop-at.invariant.2

pub loop-at-init : goal.loop-at-init
loop-at-init c = (omega arith, omega arith, refl, refl, omega arith, omega arith)

pub shape_of-area-then-line-clash : goal.shape_of-area-then-line-clash
shape_of-area-then-line-clash c = ap length c.loop-at.invariant.2

pub returns-then-line-clash : goal.returns-then-line-clash
returns-then-line-clash c =
    let a = c.args in record {
      met = (λ _. sym (c.loop-at.invariant.3 ∙ clash-here a.way.seed a.way.strict a.text.now a.area.now a.clash c.loop-at.at c.loop-at.line (omega arith) c.if-line-clash.true));
      kept = c.loop-at.invariant.2;
    }

pub slice_bounds-first_line-count : goal.slice_bounds-first_line-count
slice_bounds-first_line-count c = omega arith

pub slice_bounds-first_line-start : goal.slice_bounds-first_line-start
slice_bounds-first_line-start c = omega arith

pub slice_bounds-first_line-end : goal.slice_bounds-first_line-end
slice_bounds-first_line-end c = omega arith

pub overflow_add-end : goal.overflow_add-end
overflow_add-end c = omega (arith, inside (goal.at.overflow_add-end c).After-first_line-cut)

pub slice_bounds-parse_record-count : goal.slice_bounds-parse_record-count
slice_bounds-parse_record-count c = omega arith

pub slice_bounds-parse_record-start : goal.slice_bounds-parse_record-start
slice_bounds-parse_record-start c = omega arith

pub slice_bounds-parse_record-end : goal.slice_bounds-parse_record-end
slice_bounds-parse_record-end c = omega (arith, inside (goal.at.slice_bounds-parse_record-end c).After-first_line-cut)

pub parse_record-head-requires : goal.parse_record-head-requires
parse_record-head-requires c =
    let t = c.args.text.now in
    omega (arith, inside (goal.at.parse_record-head-requires c).After-first_line-cut, length-take (c.loop-at.at + c.first_line-cut.result.len - c.loop-at.at) (drop c.loop-at.at t), c.requires.text_len_bound)

pub find_or_enter-found-requires : goal.find_or_enter-found-requires
find_or_enter-found-requires c = record {
  text_len_bound = c.requires.text_len_bound;
  area_nonzero = omega (arith, c.requires.area_nonzero, ap length c.loop-at.invariant.2);
  key_in_text = placed-head (goal.at.find_or_enter-found-requires c).After-parse_record-head;
}

-- few slots were looked at before
few : (c : At-loop-at) → c.loop-at.slots ≤ 4294967296
few c = omega (arith, c.loop-at.invariant.5, c.loop-at.invariant.0, c.loop-at.invariant.1, c.requires.text_len_bound)

pub counted-slots-requires : goal.counted-slots-requires
counted-slots-requires c = few (goal.at.counted-slots-requires c).At-loop-at

pub overflow_sub-line : goal.overflow_sub-line
overflow_sub-line c = omega (arith, c.loop-at.invariant.4)

pub is_busy-requires : goal.is_busy-requires
is_busy-requires c =
    omega (arith, c.loop-at.invariant.0, c.loop-at.invariant.1, c.requires.text_len_bound)

pub shape_of-area-then-is_busy : goal.shape_of-area-then-is_busy
shape_of-area-then-is_busy c = ap length (kept (goal.at.shape_of-area-then-is_busy c).After-find_or_enter-found)

-- given up
pub returns-then-is_busy : goal.returns-then-is_busy
returns-then-is_busy c =
    let a = c.args in
    let plain = busy-plain a.way.seed.keyed (c.loop-at.line - a.first) c.counted-slots.result (sym c.is_busy.ensures ∙ c.if-is_busy.true) in record {
      met = (λ h. absurd (h plain refl));
      kept = kept (goal.at.returns-then-is_busy c).After-find_or_enter-found;
    }

pub shape_of-area-then-found : goal.shape_of-area-then-found
shape_of-area-then-found c = ap length (kept (goal.at.shape_of-area-then-found c).After-find_or_enter-found)

pub returns-then-found : goal.returns-then-found
returns-then-found c =
    let a = c.args in record {
      met = (λ _. sym (c.loop-at.invariant.3 ∙ clash-met a.way.seed a.way.strict a.text.now a.area.now a.clash c.loop-at.at c.loop-at.line c.loop-at-test.true c.parse_record-head.result (unfold piece in head-is (goal.at.returns-then-found c).After-parse_record-head) c.if-line-clash.false (sym (met-is (goal.at.returns-then-found c).After-find_or_enter-found) ∙ c.if-found.true)));
      kept = kept (goal.at.returns-then-found c).After-find_or_enter-found;
    }

pub overflow_add-at : goal.overflow_add-at
overflow_add-at c = omega (arith, inside (goal.at.overflow_add-at c).After-first_line-cut)

pub overflow_add-line : goal.overflow_add-line
overflow_add-line c = omega (arith, inside (goal.at.overflow_add-line c).After-first_line-cut)

pub loop-at-smaller : goal.loop-at-smaller
loop-at-smaller c = omega (arith, inside (goal.at.loop-at-smaller c).After-first_line-cut)

pub loop-at-preserved : goal.loop-at-preserved
loop-at-preserved c =
    let a = c.args in
    let t = c.args.text.now in
    let calm = calm-few a.way.seed.keyed (c.loop-at.line - a.first) c.loop-at.slots c.find_or_enter-found.result.slots
    (ap (too_many a.way.seed.keyed (c.loop-at.line - a.first)) (sym c.counted-slots.ensures) ∙ sym c.is_busy.ensures ∙ c.if-is_busy.false) c.loop-at.invariant.5 in
    let n : c.loop-at.at + c.first_line-cut.result.next ≡ c.loop-at.at + (first_line (drop c.loop-at.at t)).next = ap (λ x. c.loop-at.at + x.next) (cut (goal.at.loop-at-preserved c).After-first_line-cut) in (
      omega (arith, inside (goal.at.loop-at-preserved c).After-first_line-cut, c.loop-at.invariant.0),
      omega (arith, inside (goal.at.loop-at-preserved c).After-first_line-cut),
      kept (goal.at.loop-at-preserved c).After-find_or_enter-found,
      c.loop-at.invariant.3
          ∙ clash-on a.way.seed a.way.strict t a.area.now a.clash c.loop-at.at c.loop-at.line c.loop-at-test.true c.parse_record-head.result (unfold piece in head-is (goal.at.loop-at-preserved c).After-parse_record-head) c.if-line-clash.false (sym (met-is (goal.at.loop-at-preserved c).After-find_or_enter-found) ∙ c.if-found.false)
          ∙ ap (λ k. clash_of a.way.seed a.way.strict t a.area.now a.clash (c.loop-at.line + 1) (lines_from k (drop k t))) (sym n),
      omega (arith, c.loop-at.invariant.4),
      omega (arith, c.counted-slots.ensures, calm, c.loop-at.invariant.4),
    )

pub shape_of-area : goal.shape_of-area
shape_of-area c = ap length c.loop-at.invariant.2

pub returns : goal.returns
returns c =
    let a = c.args in record {
      met = (λ _. sym (c.loop-at.invariant.3 ∙ clash-none a.way.seed a.way.strict a.text.now a.area.now a.clash c.loop-at.at c.loop-at.line c.loop-at-test.false));
      kept = c.loop-at.invariant.2;
    }
