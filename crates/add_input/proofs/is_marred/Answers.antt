-- `add_input::is_marred` meets its contract: at each tab the fields read so far and those that are left are what was given.
use Prim.Native.Nat.{◌+◌, ◌≤◌}
use mathlib.Core.Path.{◌≡◌, sym, ap, ◌∙◌}
use native.Mathlib.Omega.{arith}
use lib.ListN.{length, drop}
use lib.Seq.{length-take-le}
use Rattle.format.specs.Fields.{field}
use Rattle.format.specs.declared.Kind.TheVariants.{Program}
use Rattle.byte_slices.specs.Upto.{before}
use Rattle.field.specs.Parsed.{parsed_of}
use Rattle.byte_slices.proofs.Before.{rest}
use Rattle.record_parser.proofs.Walked.{Turned, turned, refused-here, numbered-here}
use Rattle.add_input.proofs.Judged.{going_start, turn_end, turn-other, turn-refused, next-within, turn-barred, going}
use Rattle.add_input.proofs.is_marred.Goals as goal
use Rattle.add_input.proofs.is_marred.Goals.{After-parse_field, In-Ok}

-- what `parse_field` was lent is the rest of the fields
answer : (c : After-parse_field)
    → c.parse_field.result ≡ parsed_of Program (field Program 0 (before 9 (drop (c.loop-pos.pos + 1) c.args.fields.now)))
answer c =
    c.parse_field.ensures ∙ ap (λ s. parsed_of Program (field Program 0 (before 9 s))) (rest (c.loop-pos.pos + 1) c.args.fields.now)

-- the field that it found
turn : (c : In-Ok)
    → Turned Program c.loop-pos.pos (drop (c.loop-pos.pos + 1) c.args.fields.now) c.in-Ok.f
turn c =
    turned Program c.loop-pos.pos (drop (c.loop-pos.pos + 1) c.args.fields.now) c.parse_field.result (answer (goal.at.In-Ok c).After-parse_field) c.in-Ok.f c.in-Ok.is

-- it ends within the fields
room : (c : In-Ok)
    → c.loop-pos.pos + 4 + c.in-Ok.f.len ≤ length c.args.fields.now
room c =
    next-within c.args.fields.now c.loop-pos.pos c.loop-pos.invariant c.loop-pos-test.true c.if-fields-pos-ne9.false _ (turn c)

pub loop-pos-init : goal.loop-pos-init
loop-pos-init c = going_start c.args.fields.now

pub returns-then-fields-pos-ne9 : goal.returns-then-fields-pos-ne9
returns-then-fields-pos-ne9 c =
    sym (turn-other c.args.fields.now c.loop-pos.pos c.loop-pos.invariant c.loop-pos-test.true c.if-fields-pos-ne9.true)

pub returns-in_default : goal.returns-in_default
returns-in_default c =
    let s = drop (c.loop-pos.pos + 1) c.args.fields.now in
    let r = answer (goal.at.returns-in_default c).After-parse_field in
    let n = c.in_default.field-0 in
    sym (turn-refused c.args.fields.now c.loop-pos.pos c.loop-pos.invariant c.loop-pos-test.true c.if-fields-pos-ne9.false n (refused-here Program c.loop-pos.pos s _ r n c.in_default.is) (numbered-here Program c.loop-pos.pos s _ r n c.in_default.is))

pub slice_bounds-is_barred-end : goal.slice_bounds-is_barred-end
slice_bounds-is_barred-end c = sym (length-take-le _ _ c.loop-pos.invariant.within)

pub returns-then-is_barred : goal.returns-then-is_barred
returns-then-is_barred c =
    sym (turn-barred c.args.fields.now c.loop-pos.pos c.loop-pos.invariant c.loop-pos-test.true c.if-fields-pos-ne9.false _ (turn (goal.at.returns-then-is_barred c).In-Ok) (sym c.is_barred.ensures ∙ c.if-is_barred.true))

pub overflow_add-pos-in-loop-pos : goal.overflow_add-pos-in-loop-pos
overflow_add-pos-in-loop-pos c = omega (arith, room (goal.at.overflow_add-pos-in-loop-pos c).In-Ok)

pub overflow_add-pos-in-loop-pos-2 : goal.overflow_add-pos-in-loop-pos-2
overflow_add-pos-in-loop-pos-2 c = omega (arith, room (goal.at.overflow_add-pos-in-loop-pos-2 c).In-Ok)

pub loop-pos-smaller : goal.loop-pos-smaller
loop-pos-smaller c = omega (arith, room (goal.at.loop-pos-smaller c).In-Ok)

pub loop-pos-preserved : goal.loop-pos-preserved
loop-pos-preserved c =
    going c.args.fields.now c.loop-pos.pos c.loop-pos.invariant c.loop-pos-test.true c.if-fields-pos-ne9.false _ (turn (goal.at.loop-pos-preserved c).In-Ok) (sym c.is_barred.ensures ∙ c.if-is_barred.false)

pub returns : goal.returns
returns c =
    sym (turn_end c.args.fields.now c.loop-pos.pos c.loop-pos.invariant c.loop-pos-test.false)
