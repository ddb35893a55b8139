-- `binary_put::measure_list` meets its contract: what was counted, and the list from the current line on, make up the whole list.
use Prim.Native.Nat.{ℕ}
use mathlib.Core.Path.{◌≡◌, refl, ap, ◌∙◌}
use mathlib.Core.List.{[], ◌∷◌}
use native.Mathlib.Omega.{arith}
use lib.ListN.{length}
use Rattle.format.specs.Binary.{list_bytes}
use Rattle.binary_references.specs.Next.{sq_from, told_reference}
use Rattle.binary_references.proofs.Next.{told-one, told_none, told-length}
use Rattle.binary_put.specs.Size.{list_size}
use Rattle.binary_put.specs.declared.ListSize.{ListSize}
use Rattle.binary_bytes.proofs.Room.{list_length}
use Rattle.binary_put.proofs.measure_list.Goals as goal

sizes : {a b c d : ℕ} → a ≡ c → b ≡ d → ◌≡◌ {A = ListSize} (record { count = a; bytes = b }) (record { count = c; bytes = d })
sizes e f = rw (e, f) refl

pub loop-r-init : goal.loop-r-init
loop-r-init c = (omega arith, omega arith, omega arith, omega arith, omega arith)

pub next_reference-requires : goal.next_reference-requires
next_reference-requires c = record {
  text_len_bound = c.requires;
  start_in_bounds = c.loop-r.invariant.0;
}

pub returns : goal.returns
unfolding list_size list_bytes
returns c =
    let a = c.args in
    let none : sq_from a.strict a.text.now c.loop-r.at ≡ [] = c.in_default.ensures.list ∙ told_none a.strict a.text.now in record {
      size = sizes (omega (arith, c.loop-r.invariant.3, ap length none)) (omega (arith, c.loop-r.invariant.4, ap (λ rs. length (list_bytes rs)) none));
      small = omega (arith, c.loop-r.invariant.0, c.loop-r.invariant.2, c.requires);
    }

pub overflow_add-count : goal.overflow_add-count
overflow_add-count c = omega (arith, c.loop-r.invariant.0, c.loop-r.invariant.1, c.requires)

pub overflow_add-bytes : goal.overflow_add-bytes
overflow_add-bytes c =
    omega (arith, c.loop-r.invariant.0, c.loop-r.invariant.2, c.requires, c.in-Some.ensures.place.found.name)

pub loop-r-smaller : goal.loop-r-smaller
loop-r-smaller c =
    let r = c.in-Some.r in
    let p = c.in-Some.ensures.place.found in
    omega (arith, p.onward, p.within)

pub loop-r-preserved : goal.loop-r-preserved
loop-r-preserved c =
    let a = c.args in
    let r = c.in-Some.r in
    let p = c.in-Some.ensures.place.found in
    let on = p.onward in
    let list : sq_from a.strict a.text.now c.loop-r.at ≡ told_reference a.text.now r ∷ sq_from a.strict a.text.now r.next = c.in-Some.ensures.list ∙ told-one a.strict a.text.now r in (
      p.within,
      omega (arith, on, c.loop-r.invariant.1),
      omega (arith, on, c.loop-r.invariant.2, p.name, c.requires),
      omega (arith, c.loop-r.invariant.3, ap length list),
      omega (arith, c.loop-r.invariant.4, ap (λ rs. length (list_bytes rs)) list, list_length (told_reference a.text.now r) (sq_from a.strict a.text.now r.next), told-length a.strict a.text.now r p.name),
    )
