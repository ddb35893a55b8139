-- `program_lines::narrow_previous` meets its contract.
use mathlib.Core.Path.{sym, ap, ◌∙◌}
use mathlib.Core.Bool.{cond}
use borrow.Author.Tests.{eq-eqb, ne_eqb}
use Rattle.program_ids.specs.Places.{nowhere}
use Rattle.program_lines.specs.Found.{place_of, previous_of}
use Rattle.program_lines.proofs.narrow_previous.Goals as goal

pub returns-then-v-eq0 : goal.returns-then-v-eq0
unfolding previous_of nowhere
returns-then-v-eq0 c =
    let v = c.args.v in
    sym (ap (λ b. cond b nowhere (place_of v)) (eq-eqb v.at 0 c.if-v-eq0.true))

pub returns : goal.returns
unfolding previous_of
returns c =
    let v = c.args.v in
    c.narrow.ensures ∙ sym (ap (λ b. cond b nowhere (place_of v)) (ne_eqb v.at 0 c.if-v-eq0.false))
