-- `tidy_text::stay_of` meets its contract. Assumes nothing.
use Prim.Native.Nat.{◌+◌}
use mathlib.Core.Path.{sym, ap, ◌∙◌}
use mathlib.Core.Bool.{true}
use lib.ListN.{get_or-eq_default}
use borrow.Author.Tests.{eq-eqb, ne_eqb}
use Rattle.tidy_text.specs.Sifted.{stay_by, is_marked}
use Rattle.tidy_text.proofs.Sifting.{mark-at}
use Rattle.tidy_text.proofs.stay_of.Goals as goal

pub returns-then-src-ne80 : goal.returns-then-src-ne80
unfolding stay_by is_marked
returns-then-src-ne80 c =
    let s = c.args in
    sym (ap (λ b. stay_by b s.marks.now s.k) (ne_eqb _ _ c.if-src-ne80.true))

pub returns-then-k-marks : goal.returns-then-k-marks
unfolding stay_by is_marked
returns-then-k-marks c =
    let s = c.args in
    sym (ap (λ b. stay_by b s.marks.now s.k) (eq-eqb _ _ c.if-src-ne80.false) ∙ ap (λ t. record { stays = t; next = s.k + 1 }) (sym (mark-at s.marks.now s.k c.if-k-marks.true)))

pub returns : goal.returns
unfolding stay_by is_marked
returns c =
    let s = c.args in
    sym (ap (λ b. stay_by b s.marks.now s.k) (eq-eqb _ _ c.if-src-ne80.false) ∙ ap (λ t. record { stays = t; next = s.k + 1 }) (get_or-eq_default s.marks.now true c.if-k-marks.false))
