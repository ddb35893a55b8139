-- `catalogue_lookup::find_field` meets its contract: the fields come after the entry that is found.
use mathlib.Core.Path.{refl, ap, ◌∙◌}
use mathlib.Core.Logic.{⊎_elim}
use native.Mathlib.Omega.{arith}
use borrow.Author.Tests.{lt-ltb, le-ltb}
use Rattle.catalogue_entries.specs.Entries.{entry_size}
use Rattle.catalogue_lookup.specs.Lookup.{value_in, field_in}
use Rattle.catalogue_lookup.proofs.Walks.{found-rest, found_within}
use Rattle.catalogue_lookup.proofs.CallAnswers.{field_told}
use Rattle.std.specs.Prelude.{None}
use Rattle.catalogue_lookup.proofs.find_field.Goals as goal

pub returns-then-kind-gt5 : goal.returns-then-kind-gt5
unfolding field_in
returns-then-kind-gt5 c =
    let a = c.args in
    let told = field_told a.catalogue.now a.kind a.ordinal a.a a.b None (rw (lt-ltb _ _ c.if-kind-gt5.true) refl) in
    record { is = told.0; answer = told.1 }

pub overflow_add-at : goal.overflow_add-at
overflow_add-at c =
    let a = c.args in
    let f = c.find_record-at in
    let long = c.size-len.ensures ∙ ap entry_size c.entry_at.ensures in
    ⊎_elim (λ h. omega (arith, long, h)) (λ h. omega (arith, long, h, f.type_inv)) (found_within a.catalogue.now f.result)

pub returns : goal.returns
unfolding field_in
returns c =
    let a = c.args in
    let f = c.find_record-at in
    let long = c.size-len.ensures ∙ ap entry_size c.entry_at.ensures in
    let told = field_told a.catalogue.now a.kind a.ordinal a.a a.b c.field_from.result
    (rw (le-ltb 5 a.kind c.if-kind-gt5.false) (c.field_from.ensures ∙ ap (value_in a.a a.b) (found-rest a.kind a.ordinal a.catalogue.now f.result f.ensures c.size-len.result long))) in
    record { is = told.0; answer = told.1 }
