-- `calls::place` meets its contract: nowhere after a refusal of the check or where the catalogue has no such field.
use Prim.Native.Nat.{ℕ}
use mathlib.Core.Path.{◌≡◌, refl, sym, ap, ◌∙◌}
use mathlib.Core.List.{List}
use Rattle.std.specs.Prelude.{None, Some, Result, Ok, Err, ⊤}
use Rattle.std.specs.Result.{result_ok}
use Rattle.format.specs.Calls.{fresh, valuing}
use Rattle.format.specs.declared.Refusal.{Refusal}
use Rattle.lists.proofs.Bools.{never}
use Rattle.read.specs.Answers.{checked_of}
use Rattle.calls.specs.Answers.{value_place_of}
use Rattle.read.proofs.Fresh.{Current, refused-by, fresh-by}
use Rattle.calls.proofs.OwnCatalogue.{field-refused, field-served}
use Rattle.calls.proofs.place.Goals as goal

module _ (t c : List ℕ) where
  stopped : (k i a b : ℕ) (w : Result ⊤ Refusal) → w ≡ checked_of (fresh t c) → None ≡ result_ok w → None ≡ value_place_of (valuing t c k i a b)
  unfolding value_place_of
  stopped k i a b (Ok u) said e = absurd (never cc)
  stopped k i a b (Err r) said e = sym (ap value_place_of (field-refused t c r.number r.line.0 (refused-by t c said r refl) k i a b))

  own : (w : Result ⊤ Refusal) → w ≡ checked_of (fresh t c) → Some tt ≡ result_ok w → Current t c
  own (Ok tt) said e = fresh-by t c said refl
  own (Err r) said e = absurd (never cc)

pub returns-in_err-ok : goal.returns-in_err-ok
returns-in_err-ok c =
    let a = c.args in
    c.from_residual.ensures ∙ stopped a.text.now a.catalogue.now a.kind a.ordinal a.a a.b c.check.result c.check.ensures c.in_err-ok.ensures.value

pub returns : goal.returns
returns c =
    let a = c.args in
    c.find_field.ensures.is ∙ field-served a.text.now a.catalogue.now (own a.text.now a.catalogue.now c.check.result c.check.ensures c.in_ok-ok.ensures.value) a.kind a.ordinal a.a a.b
