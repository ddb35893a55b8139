-- `calls::field` meets its contract: the value's bytes of the text, or the whole stand-in.
use Prim.Native.Nat.{ℕ, ◌+◌, ◌-◌}
use mathlib.Core.Path.{◌≡◌, refl, sym, ap, ◌∙◌}
use mathlib.Core.List.{List}
use native.Mathlib.Omega.{arith}
use lib.ListN.{take, drop}
use Rattle.std.specs.Prelude.{Option, None, Some}
use Rattle.format.specs.Calls.{valuing}
use Rattle.catalogue_entries.specs.declared.Place.{Place}
use Rattle.calls.specs.Answers.{value_place_of}
use Rattle.calls.proofs.OwnCatalogue.{place_inside, stood, valued-at}
use Rattle.calls.proofs.field.Goals as goal
use Rattle.calls.proofs.field.Goals.{In-Some}

-- the part that is lent is the bytes at the place
lent : (t : List ℕ) (at len : ℕ) → take (at + len - at) (drop at t) ≡ take len (drop at t)
lent t at len = let e : at + len - at ≡ len = omega arith in ap (λ n. take n (drop at t)) e

nothing : (o : Option Place) → ((p : Place) → o ≡ Some p → ⊥) → o ≡ None
nothing None h = refl
nothing (Some p) h = absurd (h p refl)

-- the value's place
told : (c : In-Some) → let a = c.args in value_place_of (valuing a.text.now a.catalogue.now a.kind a.ordinal a.a a.b) ≡ Some c.in-Some.p
told c = sym c.place.ensures ∙ c.in-Some.is

pub slice_bounds-result-end : goal.slice_bounds-result-end
slice_bounds-result-end c =
    let a = c.args in
    omega (arith, place_inside a.text.now a.catalogue.now a.kind a.ordinal a.a a.b c.in-Some.p (told (goal.at.slice_bounds-result-end c).In-Some))

pub returns-in_default : goal.returns-in_default
returns-in_default c =
    let a = c.args in
    let told = stood a.text.now a.catalogue.now a.kind a.ordinal a.a a.b a.stand_in.now a.text.ref_ptr a.stand_in.ref_ptr (sym c.place.ensures ∙ nothing c.place.result c.in_default.not-Some) in
    record { value = told.0; place = told.1 }

pub returns : goal.returns
returns c =
    let a = c.args in
    let p = c.in-Some.p in
    let v = valued-at a.text.now a.catalogue.now a.kind a.ordinal a.a a.b a.stand_in.now a.text.ref_ptr a.stand_in.ref_ptr p (told (goal.at.returns c).In-Some) in record {
      value = lent a.text.now p.at p.len ∙ v.0;
      place = v.1;
    }
