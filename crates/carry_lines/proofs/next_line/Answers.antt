-- `carry_lines::next_line` meets its contract: the line is judged by what the slots say of its key, and the cursor is after it.
use Prim.Native.Nat.{◌+◌, ◌-◌, ◌≤◌}
use mathlib.Core.Path.{◌≡◌, refl, sym, ap, ap₂, subst, ◌∙◌}
use native.Mathlib.Omega.{arith}
use lib.ListN.{length, take, drop, length-take, length-drop}
use lib.Dec.{ltb}
use lib.Seq.{take_all}
use Rattle.format.specs.Records.{line}
use Rattle.format.specs.Reading.{admitted}
use Rattle.byte_slices.specs.First.{first_line}
use Rattle.byte_slices.proofs.First.{first-le, first-within}
use Rattle.accepted.specs.First.{first_at}
use Rattle.accepted.proofs.Ahead.{ahead-stands}
use Rattle.record.specs.Head.{head_of}
use Rattle.read_admission.specs.Admission.{line_refusal, barring}
use Rattle.key_index.specs.Keyed.{KeyInText}
use Rattle.key_index.proofs.HeldKeys.{head-placed}
use Rattle.carry_lines.specs.Kept.{used_by, ids_after, until_at, filled_at, advanced}
use Rattle.carry_lines.proofs.Kept.{advanced-to}
use Rattle.carry_lines.proofs.Going.{filled-long, judged, refusal-here, going_on, ids-length, kept-lines, before}
use Rattle.carry_lines.proofs.next_line.Goals as goal
use Rattle.carry_lines.proofs.next_line.Goals.{After-fill_at_block_end-block, After-first_line-cut, After-parse_record-head}

-- the line ahead
cut : (f : After-first_line-cut) → (let a = f.args in f.first_line-cut.result ≡ first_line (drop a.c.at a.text.now))
cut f =
    let a = f.args in
    f.first_line-cut.ensures ∙ ap first_line (take_all (length a.text.now - a.c.at) (drop a.c.at a.text.now) (omega (arith, length-drop a.c.at a.text.now)))

inside : (f : After-first_line-cut)
    → (let a = f.args in (a.c.at + f.first_line-cut.result.len ≤ length a.text.now) × (a.c.at + f.first_line-cut.result.next ≤ length a.text.now))
inside f =
    let d = drop f.args.c.at f.args.text.now in
    let l = length-drop f.args.c.at f.args.text.now in
    rw (cut f) (omega (arith, l, first-le d, first-within d, f.requires.at_in_bounds), omega (arith, l, first-within d, f.requires.at_in_bounds))

-- its head
head-is : (p : After-parse_record-head) → (let a = p.args in p.parse_record-head.result ≡ head_of (line a.strict (first_at a.c.at a.text.now)))
head-is p =
    let a = p.args in
    let n : a.c.at + p.first_line-cut.result.len - a.c.at ≡ p.first_line-cut.result.len = omega arith in
    p.parse_record-head.ensures ∙ ap (λ b. head_of (line a.strict (record { at = a.c.at; bytes = take b (drop a.c.at a.text.now) }))) (n ∙ ap (λ x. x.len) (cut (goal.at.After-parse_record-head p).After-first_line-cut))

placed-head : (p : After-parse_record-head) → KeyInText (length p.args.text.now) p.parse_record-head.result
placed-head p =
    let a = p.args in
    subst (KeyInText (length a.text.now)) (sym (head-is p)) (head-placed a.strict a.text.now a.c.at p.requires.text_len_bound (ahead-stands a.text.now a.c.at p.requires.at_in_bounds))

-- the area, filled for its block
long : (w : After-fill_at_block_end-block) → length w.fill_at_block_end-block.new.area ≡ length w.args.area.now
long w =
    let a = w.args in
    ap length w.fill_at_block_end-block.ensures.wrote ∙ filled-long a.strict a.text.now a.from a.area.now a.ids.now a.c w.requires.text_len_bound w.requires.going w.requires.at_in_bounds w.fill_at_block_end-block.result.seed w.fill_at_block_end-block.ensures.seed

pub overflow_add-end : goal.overflow_add-end
overflow_add-end c = omega (arith, inside (goal.at.overflow_add-end c).After-first_line-cut)

pub slice_bounds-parse_record-end : goal.slice_bounds-parse_record-end
slice_bounds-parse_record-end c = omega (arith, inside (goal.at.slice_bounds-parse_record-end c).After-first_line-cut)

pub parse_record-head-requires : goal.parse_record-head-requires
parse_record-head-requires c =
    let a = c.args in
    omega (arith, inside (goal.at.parse_record-head-requires c).After-first_line-cut, length-take (a.c.at + c.first_line-cut.result.len - a.c.at) (drop a.c.at a.text.now), c.requires.text_len_bound)

pub is_used-used-requires : goal.is_used-used-requires
is_used-used-requires c =
    let g = c.requires.going in record {
      text_len_bound = c.requires.text_len_bound;
      area_nonzero = (omega (arith, long (goal.at.is_used-used-requires c).After-fill_at_block_end-block, g.some), omega (arith, g.room));
      key_in_text = placed-head (goal.at.is_used-used-requires c).After-parse_record-head;
    }

pub overflow_add-at : goal.overflow_add-at
overflow_add-at c = omega (arith, inside (goal.at.overflow_add-at c).After-first_line-cut)

pub advance-requires : goal.advance-requires
advance-requires c =
    let a = c.args in
    let g = c.requires.going in
    let most = kept-lines a.strict a.text.now a.from a.area.now a.ids.now a.c c.requires.text_len_bound g c.requires.at_in_bounds in
    (omega (arith, g.slow, c.requires.text_len_bound, c.requires.at_in_bounds), omega (arith, most, g.slow, c.requires.text_len_bound, c.requires.at_in_bounds), omega (arith, g.few))

pub returns : goal.returns
returns c =
    let a = c.args in
    let t = c.args.text.now in
    let n = c.barred-n.result in
    let seed = c.fill_at_block_end-block.result.seed in
    let keeps = c.fill_at_block_end-block.ensures.seed in
    let at_next : a.c.at + c.first_line-cut.result.next ≡ a.c.at + (first_line (drop a.c.at t)).next = ap (λ x. a.c.at + x.next) (cut (goal.at.returns c).After-first_line-cut) in
    let used : c.is_used-used.result ≡ used_by seed t (filled_at seed a.strict t a.from a.area.now a.c.at a.c.until) a.ids.now (head_of (line a.strict (first_at a.c.at t))) =
    c.is_used-used.ensures.used ∙ ap₂ (λ s x. used_by seed t s a.ids.now x) c.fill_at_block_end-block.ensures.wrote (head-is (goal.at.returns c).After-parse_record-head) in
    let refusal : n ≡ line_refusal (admitted a.strict (before a.strict t a.from a.area.now a.ids.now a.c c.requires.text_len_bound c.requires.going c.requires.at_in_bounds) (first_at a.c.at t)) =
    c.barred-n.ensures ∙ ap₂ (λ d x. barring d a.c.kept a.c.programs x) used (head-is (goal.at.returns c).After-parse_record-head)
    ∙ judged a.strict t a.from a.area.now a.ids.now a.c c.requires.text_len_bound c.requires.going c.requires.at_in_bounds seed keeps in
    let after : c.advance.result ≡ advanced a.c (a.c.at + (first_line (drop a.c.at t)).next) (until_at a.strict t (length a.area.now) a.c.at a.c.until) seed (head_of (line a.strict (first_at a.c.at t))) n =
    c.advance.ensures ∙ rw (at_next, c.fill_at_block_end-block.ensures.until, head-is (goal.at.returns c).After-parse_record-head) refl in
    let to = advanced-to a.c (a.c.at + (first_line (drop a.c.at t)).next) (until_at a.strict t (length a.area.now) a.c.at a.c.until) seed (head_of (line a.strict (first_at a.c.at t))) n in
    let last : c.advance.result.seed ≡ seed = ap (λ x. x.seed) after ∙ to.2 in
    let there = after
    ∙ ap (λ s. advanced a.c (a.c.at + (first_line (drop a.c.at t)).next) (until_at a.strict t (length a.area.now) a.c.at a.c.until) s (head_of (line a.strict (first_at a.c.at t))) n) (sym last) in
    let filled = c.fill_at_block_end-block.ensures.wrote ∙ ap (λ s. filled_at s a.strict t a.from a.area.now a.c.at a.c.until) (sym last) in
    let ids : c.is_used-used.new.ids ≡ ids_after (ltb a.c.programs 1024) t a.ids.now (head_of (line a.strict (first_at a.c.at t))) =
    c.is_used-used.ensures.wrote ∙ ap (ids_after (ltb a.c.programs 1024) t a.ids.now) (head-is (goal.at.returns c).After-parse_record-head) in record {
      end = ap (λ x. a.c.at + x.len) (cut (goal.at.returns c).After-first_line-cut);
      refusal = refusal ∙ sym (refusal-here a.strict t a.from a.area.now a.ids.now a.c c.requires.text_len_bound c.requires.going c.requires.at_in_bounds);
      at = ap (λ x. x.at) after ∙ to.0;
      line = ap (λ x. x.line) after ∙ to.1;
      next = rw (after, ids, c.fill_at_block_end-block.ensures.wrote) (going_on a.strict t a.from a.area.now a.ids.now a.c c.requires.text_len_bound c.requires.going c.requires.at_in_bounds seed keeps n refusal);
      room = long (goal.at.returns c).After-fill_at_block_end-block;
      room2 = ap length ids ∙ ids-length a.strict t a.from a.area.now a.ids.now a.c c.requires.text_len_bound c.requires.going c.requires.at_in_bounds seed keeps (ltb a.c.programs 1024) (head_of (line a.strict (first_at a.c.at t)));
      stands = there;
      filled = filled;
      entered = ids;
    }
