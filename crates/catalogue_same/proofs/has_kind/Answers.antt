-- `catalogue_same::has_kind` meets its contract.
use mathlib.Core.Path.{refl, sym, ◌∙◌}
use mathlib.Core.List.{◌++◌}
use native.Mathlib.Omega.{arith}
use borrow.Author.Tests.{eq-eqb, ne_eqb}
use Rattle.format.specs.Catalogue.{little}
use Rattle.catalogue_same.proofs.Starts.{starts-byte}
use Rattle.catalogue_same.proofs.has_kind.Goals as goal

pub returns-then-s-at : goal.returns-then-s-at
returns-then-s-at c =
    let a = c.args in
    sym (starts-byte a.s.now a.at a.kind (little 4 a.a ++ little 4 a.b) (omega arith) ∙ rw (ne_eqb a.kind _ (λ e. c.if-s-at.true (sym e))) refl)

pub returns : goal.returns
returns c =
    let a = c.args in
    c.has_numbers.ensures
    ∙ sym (starts-byte a.s.now a.at a.kind (little 4 a.a ++ little 4 a.b) (omega arith) ∙ rw (eq-eqb a.kind _ (sym c.if-s-at.false)) refl)
