-- `record_parser::fields::walk_fields` meets its contract: at each tab the fields read so far and those that are left make the line.
use Prim.Native.Nat.{◌+◌, ◌-◌, ◌≤◌, ◌<◌}
use mathlib.Core.Path.{◌≡◌, sym, ap, ◌∙◌}
use mathlib.Core.Bool.{false, ◌&&◌, ◌||◌}
use mathlib.Core.Logic.{⊎_elim}
use native.Mathlib.Omega.{arith}
use lib.ListN.{length, take, drop, get_or, length-replicate}
use Rattle.format.specs.Bytes.{any}
use Rattle.format.specs.Fields.{tagged, field}
use Rattle.byte_slices.specs.Upto.{before}
use Rattle.field.specs.Parsed.{parsed_of}
use Rattle.byte_slices.proofs.Before.{rest}
use Rattle.record_tags.specs.Occurs.{occurs}
use Rattle.record.specs.Head.{head_of}
use Rattle.record_parser.specs.Marks.{marks_of}
use Rattle.record_parser.proofs.Walked.{Turned, turned, refused-here, numbered-here}
use Rattle.record_parser.proofs.Step.{walked_start, turn-six, turn_end, turn-refused, next-within, turn-tag, turn-place, told-again, turn_twice, walked}
use Rattle.record_parser.proofs.fields.walk_fields.Goals as goal
use Rattle.record_parser.proofs.fields.walk_fields.Goals.{After-mark_of-mark, After-parse_field, After-stands_again-again, At-loop-pos, In-Ok, Joined-else-strict}

-- what `parse_field` was lent is the rest of the line
answer : (c : After-parse_field)
    → let a = c.args in
    c.parse_field.result ≡ parsed_of a.kind (field a.kind 0 (before 9 (drop (c.loop-pos.pos + 1) a.src.now)))
answer c =
    let a = c.args in
    c.parse_field.ensures ∙ ap (λ s. parsed_of a.kind (field a.kind 0 (before 9 s))) (rest (c.loop-pos.pos + 1) a.src.now)

-- the field that it found
turn : (c : In-Ok)
    → let a = c.args in
    Turned a.kind (a.at + c.loop-pos.pos) (drop (c.loop-pos.pos + 1) a.src.now) c.in-Ok.f
turn c =
    let a = c.args in
    turned a.kind (a.at + c.loop-pos.pos) (drop (c.loop-pos.pos + 1) a.src.now) c.parse_field.result (answer (goal.at.In-Ok c).After-parse_field) c.in-Ok.f c.in-Ok.is

-- the field ends within the line
room : (c : In-Ok)
    → c.loop-pos.pos + 4 + c.in-Ok.f.len ≤ length c.args.src.now
room c =
    let a = c.args in
    next-within a.kind a.src.now a.at a.strict a.exact c.loop-pos.seen c.loop-pos.keys c.loop-pos.pos c.loop-pos.invariant c.loop-pos-test.true c.if-src-pos-ne9.false _ (turn c)

-- its mark is in the table
marked : (c : After-mark_of-mark)
    → c.mark_of-mark.result < length c.loop-pos.seen
marked c =
    let a = c.args in
    rw c.mark_of-mark.ensures (turn-place a.kind a.src.now a.at a.strict a.exact c.loop-pos.seen c.loop-pos.keys c.loop-pos.pos c.loop-pos.invariant c.loop-pos-test.true c.if-src-pos-ne9.false _ (turn (goal.at.After-mark_of-mark c).In-Ok))

-- whether its tag was there before
again : (c : After-stands_again-again)
    → c.stands_again-again.result ≡ any (tagged (turn (goal.at.After-stands_again-again c).In-Ok).field.tag₀ (turn (goal.at.After-stands_again-again c).In-Ok).field.tag₁) c.loop-pos.invariant.fields
again c =
    let a = c.args in
    let g = c.in-Ok.f in
    c.stands_again-again.ensures
    ∙ ap (λ i. get_or c.loop-pos.seen i false && (a.exact || occurs g.tag_0 g.tag_1 (take (c.loop-pos.pos - 3) (drop 3 a.src.now)))) c.mark_of-mark.ensures
    ∙ told-again a.kind a.src.now a.at a.strict a.exact c.loop-pos.seen c.loop-pos.keys c.loop-pos.pos c.loop-pos.invariant c.loop-pos-test.true c.if-src-pos-ne9.false g (turn (goal.at.After-stands_again-again c).In-Ok)

-- as many marks as were lent
lent : (c : At-loop-pos) → length c.loop-pos.seen ≡ length c.args.seen.now
lent c =
    c.loop-pos.invariant.marked.size ∙ sym (ap length c.requires.seen_value ∙ length-replicate (marks_of c.args.exact) false)

-- no tag is repeated where that is forbidden
allowed : (c : Joined-else-strict)
    → c.args.strict && any (tagged (turn (goal.at.Joined-else-strict c).In-Ok).field.tag₀ (turn (goal.at.Joined-else-strict c).In-Ok).field.tag₁) c.loop-pos.invariant.fields ≡ false
allowed c =
    let t = turn (goal.at.Joined-else-strict c).In-Ok in
    let twice = any (tagged t.field.tag₀ t.field.tag₁) c.loop-pos.invariant.fields in
    ⊎_elim
    (λ w. ap (λ b. b && twice) w.0 ∙ sym (again (goal.at.Joined-else-strict c).After-stands_again-again) ∙ w.1)
    (λ w. ap (λ b. b && twice) w)
    c.else-strict.either

pub loop-pos-init : goal.loop-pos-init
loop-pos-init c =
    let a = c.args in
    walked_start a.kind a.src.now a.at a.strict a.exact a.seen.now c.new-keys.result c.requires.in_bounds c.requires.seen_value c.new-keys.ensures

pub shape_of-seen-then-src-pos-ne9 : goal.shape_of-seen-then-src-pos-ne9
shape_of-seen-then-src-pos-ne9 c = lent (goal.at.shape_of-seen-then-src-pos-ne9 c).At-loop-pos

pub returns-then-src-pos-ne9 : goal.returns-then-src-pos-ne9
unfolding head_of
returns-then-src-pos-ne9 c =
    let a = c.args in
    sym (ap head_of (turn-six a.kind a.src.now a.at a.strict a.exact c.loop-pos.seen c.loop-pos.keys c.loop-pos.pos c.loop-pos.invariant c.loop-pos-test.true c.if-src-pos-ne9.true))

pub shape_of-seen-in-Err : goal.shape_of-seen-in-Err
shape_of-seen-in-Err c = lent (goal.at.shape_of-seen-in-Err c).At-loop-pos

pub returns-in-Err : goal.returns-in-Err
unfolding head_of
returns-in-Err c =
    let a = c.args in
    let s = drop (c.loop-pos.pos + 1) a.src.now in
    let r = answer (goal.at.returns-in-Err c).After-parse_field in
    let n = c.in-Err.refusal in
    sym (ap head_of (turn-refused a.kind a.src.now a.at a.strict a.exact c.loop-pos.seen c.loop-pos.keys c.loop-pos.pos c.loop-pos.invariant c.loop-pos-test.true c.if-src-pos-ne9.false n (refused-here a.kind (a.at + c.loop-pos.pos) s _ r n c.in-Err.is) (numbered-here a.kind (a.at + c.loop-pos.pos) s _ r n c.in-Err.is)))

pub mark_of-mark-requires : goal.mark_of-mark-requires
mark_of-mark-requires c =
    let a = c.args in
    turn-tag a.kind a.src.now a.at a.strict a.exact c.loop-pos.seen c.loop-pos.keys c.loop-pos.pos c.loop-pos.invariant c.loop-pos-test.true c.if-src-pos-ne9.false _ (turn c)

pub bounds-seen-mark : goal.bounds-seen-mark
bounds-seen-mark c = marked (goal.at.bounds-seen-mark c).After-mark_of-mark

pub shape_of-seen-then-again : goal.shape_of-seen-then-again
shape_of-seen-then-again c = lent (goal.at.shape_of-seen-then-again c).At-loop-pos

pub returns-then-again : goal.returns-then-again
unfolding head_of
returns-then-again c =
    let a = c.args in
    sym (ap head_of (turn_twice a.kind a.src.now a.at a.strict a.exact c.loop-pos.seen c.loop-pos.keys c.loop-pos.pos c.loop-pos.invariant c.loop-pos-test.true c.if-src-pos-ne9.false _ (turn (goal.at.returns-then-again c).In-Ok) c.if-strict.true (sym (again (goal.at.returns-then-again c).After-stands_again-again) ∙ c.if-again.true)))

pub bounds-seen-mark-in-loop-pos : goal.bounds-seen-mark-in-loop-pos
bounds-seen-mark-in-loop-pos c = marked (goal.at.bounds-seen-mark-in-loop-pos c).After-mark_of-mark

pub overflow_add-at : goal.overflow_add-at
overflow_add-at c =
    omega (arith, room (goal.at.overflow_add-at c).In-Ok, c.requires.src_bound)

pub overflow_add-at-in-loop-pos : goal.overflow_add-at-in-loop-pos
overflow_add-at-in-loop-pos c =
    omega (arith, room (goal.at.overflow_add-at-in-loop-pos c).In-Ok, c.requires.src_bound)

pub with-keys-requires : goal.with-keys-requires
with-keys-requires c =
    omega (arith, room (goal.at.with-keys-requires c).In-Ok, c.requires.src_bound, c.loop-pos.invariant.few)

pub overflow_add-pos-in-loop-pos : goal.overflow_add-pos-in-loop-pos
overflow_add-pos-in-loop-pos c =
    omega (arith, room (goal.at.overflow_add-pos-in-loop-pos c).In-Ok, c.requires.src_bound)

pub overflow_add-pos-in-loop-pos-2 : goal.overflow_add-pos-in-loop-pos-2
overflow_add-pos-in-loop-pos-2 c =
    omega (arith, room (goal.at.overflow_add-pos-in-loop-pos-2 c).In-Ok, c.requires.src_bound)

pub loop-pos-smaller : goal.loop-pos-smaller
loop-pos-smaller c =
    omega (arith, room (goal.at.loop-pos-smaller c).In-Ok)

pub loop-pos-preserved : goal.loop-pos-preserved
loop-pos-preserved c =
    let a = c.args in
    rw (c.mark_of-mark.ensures, c.with-keys.ensures, again (goal.at.loop-pos-preserved c).After-stands_again-again)
    (walked a.kind a.src.now a.at a.strict a.exact c.loop-pos.seen c.loop-pos.keys c.loop-pos.pos c.loop-pos.invariant c.loop-pos-test.true c.if-src-pos-ne9.false _ (turn (goal.at.loop-pos-preserved c).In-Ok) (allowed (goal.at.loop-pos-preserved c).Joined-else-strict))

pub shape_of-seen : goal.shape_of-seen
shape_of-seen c = lent (goal.at.shape_of-seen c).At-loop-pos

pub returns : goal.returns
returns c =
    let a = c.args in
    c.head.ensures ∙ turn_end a.kind a.src.now a.at a.strict a.exact c.loop-pos.seen c.loop-pos.keys c.loop-pos.pos c.loop-pos.invariant c.loop-pos-test.false
