-- `merge_hints::is_marked` meets its contract: a slot that has the mark holds the reference.
use Prim.Native.Nat.{◌+◌}
use mathlib.Core.Path.{refl, ap, ◌∙◌}
use mathlib.Core.Bool.{false≢true}
use native.Mathlib.Omega.{arith}
use native.Mathlib.Nat.{mod-lt}
use lib.ListN.{length}
use Rattle.merge_hints.proofs.Laws.{marked-at}
use Rattle.merge_hints.proofs.is_marked.Goals as goal

pub number-h-requires : goal.number-h-requires
number-h-requires c = c.requires.len_in_bounds

pub overflow_add-own : goal.overflow_add-own
overflow_add-own c = omega (arith, c.requires.at_bound)

pub overflow_cast-own : goal.overflow_cast-own
overflow_cast-own c = omega (arith, c.requires.at_bound)

pub overflow_add-own-2 : goal.overflow_add-own-2
overflow_add-own-2 c = omega (arith, c.requires.at_bound, c.tag.ensures.1, c.tag.ensures.2)

pub nonzero_rem-p : goal.nonzero_rem-p
nonzero_rem-p c = c.requires.area_nonzero

pub loop-init : goal.loop-init
loop-init c = (mod-lt c.number-h.result {m = length c.args.area.now} c.requires.area_nonzero, refl)

pub offset_bounds-area-p : goal.offset_bounds-area-p
offset_bounds-area-p c = omega arith

pub bounds-area-p : goal.bounds-area-p
bounds-area-p c = c.loop.invariant.0

pub overflow_add-own-in-loop : goal.overflow_add-own-in-loop
overflow_add-own-in-loop c = omega (arith, c.requires.at_bound, c.tag.ensures.1, c.tag.ensures.2)

pub returns-then-v-own : goal.returns-then-v-own
returns-then-v-own c =
    let a = c.args in
    let k = c.tag.ensures in
    λ _ strict rs h. marked-at strict a.b.now rs a.area.now c.loop.p a.at k.0 c.requires.at_bound k.2 (c.if-v-own.true ∙ ap (λ x. a.at + 1 + x + 2147483648) k.1) h

pub after-p-requires : goal.after-p-requires
after-p-requires c = c.loop.invariant.0

pub loop-preserved : goal.loop-preserved
loop-preserved c = (c.after-p.ensures, refl)

pub returns : goal.returns
returns c = λ e. absurd (false≢true e)
