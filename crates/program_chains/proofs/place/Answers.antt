-- `program_chains::place` meets its contract: what is listed at the place that is noted is `x`, or `x` is not listed. Assumes nothing.
use mathlib.Core.Path.{◌≡◌, sym, ap, ◌∙◌}
use native.Mathlib.Omega.{arith}
use lib.ListN.{get_or}
use Rattle.program_chains.proofs.Places.{found-place, other-there, none-there}
use Rattle.program_chains.proofs.place.Goals as goal

pub returns-then-x-list : goal.returns-then-x-list
returns-then-x-list c =
    let z : c.size-at.result ≡ get_or c.args.places.now c.args.x 0 = c.size-at.ensures in
    z ∙ found-place c.args.x c.args.list.now c.args.places.now c.requires.has_places (omega (arith, z, c.if-at-list.true)) (c.if-x-list.true ∙ ap (λ j. get_or c.args.list.now j 0) z)

pub returns-else-x-list : goal.returns-else-x-list
returns-else-x-list c =
    let z : c.size-at.result ≡ get_or c.args.places.now c.args.x 0 = c.size-at.ensures in
    other-there c.args.x c.args.list.now c.args.places.now c.requires.has_places (λ e. c.if-x-list.false (e ∙ ap (λ j. get_or c.args.list.now j 0) (sym z)))

pub returns-else-at-list : goal.returns-else-at-list
returns-else-at-list c =
    let z : c.size-at.result ≡ get_or c.args.places.now c.args.x 0 = c.size-at.ensures in
    none-there c.args.x c.args.list.now c.args.places.now c.requires.has_places (omega (arith, z, c.if-at-list.false))
