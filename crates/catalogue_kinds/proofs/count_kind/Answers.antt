-- `catalogue_kinds::count_kind` meets its contract: all are before an ordinal that none of them has.
use mathlib.Core.Path.{ap, ◌∙◌}
use native.Mathlib.Omega.{arith}
use Rattle.catalogue_entries.specs.Entries.{entries_in, counted}
use Rattle.catalogue_kinds.specs.Passing.{passing}
use Rattle.catalogue_entries.proofs.Walk.{before-all, counted-within}
use Rattle.catalogue_kinds.proofs.count_kind.Goals as goal

pub returns : goal.returns
unfolding passing
returns c =
    let a = c.args in
    let few = counted-within a.kind a.catalogue.now in
    ap (λ p. p.count) c.pass_before-all.ensures ∙ ap (counted a.kind) (before-all a.kind 18446744073709551615 (entries_in a.catalogue.now) (omega (arith, few)))
