-- `utf8::Pending::first` meets its contract: each arm is a row of the table, or a gap in it.
use mathlib.Core.Path.{refl, sym, ap, ◌∙◌}
use native.Mathlib.Omega.{arith}
use Rattle.format.specs.Utf8.{trail, forms}
use Rattle.utf8.specs.Pending.{pending_of}
use Rattle.utf8.proofs.Rows.{due_from, due-from, due-three, due-high}
use Rattle.utf8.proofs.Pending.first.Goals as goal
use Rattle.utf8.proofs.Pending.first.Goals.{in_default-via-then-b-lt32, in_default-via-else-b-lt32+else-b-lt127+then-b-lt194, in_default-via-else-b-lt32+else-b-lt127+else-b-lt194+else-b-lt224+else-b-lt240+else-b-lt244}

pub returns-in-32-to-126 : goal.returns-in-32-to-126
unfolding pending_of due_from forms trail
returns-in-32-to-126 c = c.new-in-32-to-126.ensures ∙ sym (ap pending_of (due-from 32 126 c.args.b (omega arith) (omega arith) forms _ refl))

pub returns-in-194-to-223 : goal.returns-in-194-to-223
unfolding pending_of due_from forms trail
returns-in-194-to-223 c = c.new-in-194-to-223.ensures ∙ sym (ap pending_of (due-from 194 223 c.args.b (omega arith) (omega arith) forms _ refl))

pub returns-in-224 : goal.returns-in-224
unfolding pending_of due_from forms trail
returns-in-224 c = c.new.ensures ∙ sym (ap pending_of (due-from 224 224 c.args.b (omega (arith, c.in-224.is)) (omega (arith, c.in-224.is)) forms _ refl))

pub returns-in-237 : goal.returns-in-237
unfolding pending_of due_from forms trail
returns-in-237 c = c.new-in-237.ensures ∙ sym (ap pending_of (due-from 237 237 c.args.b (omega (arith, c.in-237.is)) (omega (arith, c.in-237.is)) forms _ refl))

pub returns-in-240 : goal.returns-in-240
unfolding pending_of due_from forms trail
returns-in-240 c = c.new-in-240.ensures ∙ sym (ap pending_of (due-from 240 240 c.args.b (omega (arith, c.in-240.is)) (omega (arith, c.in-240.is)) forms _ refl))

pub returns-in-241-to-243 : goal.returns-in-241-to-243
unfolding pending_of due_from forms trail
returns-in-241-to-243 c = c.new-in-241-to-243.ensures ∙ sym (ap pending_of (due-from 241 243 c.args.b (omega arith) (omega arith) forms _ refl))

pub returns-in-244 : goal.returns-in-244
unfolding pending_of due_from forms trail
returns-in-244 c = c.new-in-244.ensures ∙ sym (ap pending_of (due-from 244 244 c.args.b (omega (arith, c.in-244.is)) (omega (arith, c.in-244.is)) forms _ refl))

pub returns-in-225-to-239 : goal.returns-in-225-to-239
unfolding pending_of due_from forms trail
returns-in-225-to-239 c = c.new-in-225-to-239.ensures ∙ sym (ap pending_of (due-three c.args.b (omega arith) (λ e. omega (arith, e)) (omega arith)))

pub returns-in_default : goal.returns-in_default
unfolding pending_of due_from forms trail
returns-in_default c =
    let b = c.args.b in
    elim c.in_default.branch [
      | in_default-via-then-b-lt32 w ↦ c.new-in_default.ensures ∙ sym (ap pending_of (due-from 0 31 b (omega arith) (omega arith) forms _ refl))
      | in_default-via-else-b-lt32+else-b-lt127+then-b-lt194 w ↦ c.new-in_default.ensures ∙ sym (ap pending_of (due-from 127 193 b (omega arith) (omega arith) forms _ refl))
      | in_default-via-else-b-lt32+else-b-lt127+else-b-lt194+else-b-lt224+else-b-lt240+else-b-lt244 w ↦ c.new-in_default.ensures ∙ sym (ap pending_of (due-high b (omega arith)))
    ]
