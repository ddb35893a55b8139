-- `binary_put::put_list` meets its contract: what was written, and the list from the current line on, make up the whole list.
use Prim.Native.Nat.{◌+◌, ◌-◌, ◌≤◌}
use mathlib.Core.Path.{◌≡◌, refl, sym, ap, ◌∙◌}
use mathlib.Core.List.{[], ◌++◌, append_assoc, append-nil}
use native.Mathlib.Omega.{arith}
use lib.ListN.{length, take, drop, length-append}
use Rattle.byte_slices.specs.Over.{over}
use Rattle.byte_slices.proofs.Over.{over_none}
use Rattle.format.specs.Binary.{reference_bytes, list_bytes}
use Rattle.binary_references.specs.Next.{sq_from, told_reference}
use Rattle.binary_references.proofs.Next.{told-one, told_none, told-length}
use Rattle.binary_bytes.proofs.Room.{reference-length}
use Rattle.binary_put.proofs.Bytes.{behind}
use Rattle.binary_put.proofs.put_list.Goals as goal
use Rattle.binary_put.proofs.put_list.Goals.{In-Some}

-- the reference of a step comes before the rest of the list
listed : (e : In-Some)
    → let a = e.args in
    let r = e.in-Some.r in
    list_bytes (sq_from a.strict a.text.now e.loop-r.at) ≡ reference_bytes (told_reference a.text.now r) ++ list_bytes (sq_from a.strict a.text.now r.next)
unfolding list_bytes
listed e =
    let a = e.args in
    let r = e.in-Some.r in
    ap list_bytes (e.in-Some.ensures.list ∙ told-one a.strict a.text.now r)

-- and fits in the output
room : (e : In-Some)
    → let a = e.args in
    let r = e.in-Some.r in
    (length (reference_bytes (told_reference a.text.now r)) ≡ r.name.len + 9)
    × (a.start + length e.loop-r.invariant.0 + (r.name.len + 9) ≤ length a.out.now)
room e =
    let a = e.args in
    let r = e.in-Some.r in
    let v = e.loop-r.invariant in
    let one = reference_bytes (told_reference a.text.now r) in
    let rest = list_bytes (sq_from a.strict a.text.now r.next) in
    let size : length one ≡ r.name.len + 9 = reference-length (told_reference a.text.now r) ∙ ap (λ k. k + 9) (told-length a.strict a.text.now r e.in-Some.ensures.place.found.name) in
    (size, omega (arith, size, e.requires.text_in_bounds, ap length v.5, length-append v.0 (list_bytes (sq_from a.strict a.text.now e.loop-r.at)), ap length (listed e), length-append one rest))

-- the name as it is lent
named : (e : In-Some)
    → let t = e.args.text.now in
    let r = e.in-Some.r in
    take (r.name.at + r.name.len - r.name.at) (drop r.name.at t) ≡ (told_reference t r).name
unfolding told_reference
named e =
    let t = e.args.text.now in
    let r = e.in-Some.r in
    let m : r.name.at + r.name.len - r.name.at ≡ r.name.len = omega arith in
    ap (λ k. take k (drop r.name.at t)) m

pub loop-r-init : goal.loop-r-init
loop-r-init c = ([], omega arith, omega arith, refl, sym (over_none _ _), refl)

pub next_reference-requires : goal.next_reference-requires
next_reference-requires c = record {
  text_len_bound = c.requires.text_len_bound;
  start_in_bounds = c.loop-r.invariant.1;
}

pub shape_of-out : goal.shape_of-out
shape_of-out c = c.loop-r.invariant.3

pub returns : goal.returns
unfolding list_bytes
returns c =
    let a = c.args in
    let v = c.loop-r.invariant in
    let none = ap list_bytes (c.in_default.ensures.list ∙ told_none a.strict a.text.now) in
    v.4 ∙ ap (over a.out.now a.start) (sym (v.5 ∙ ap (λ x. v.0 ++ x) none ∙ append-nil v.0))

pub overflow_add-from : goal.overflow_add-from
overflow_add-from c =
    omega (arith, c.in-Some.ensures.place.found.name, c.requires.text_len_bound)

pub slice_bounds-put_reference-count : goal.slice_bounds-put_reference-count
slice_bounds-put_reference-count c = omega arith

pub slice_bounds-put_reference-start : goal.slice_bounds-put_reference-start
slice_bounds-put_reference-start c = omega arith

pub slice_bounds-put_reference-end : goal.slice_bounds-put_reference-end
slice_bounds-put_reference-end c = omega (arith, c.in-Some.ensures.place.found.name)

pub put_reference-o-requires : goal.put_reference-o-requires
put_reference-o-requires c =
    let r = c.in-Some.r in
    let p = c.in-Some.ensures.place.found.name in
    let size = ap length (named (goal.at.put_reference-o-requires c).In-Some) ∙ told-length c.args.strict c.args.text.now r p in record {
      name_len_bound = omega (arith, size, p, c.requires.text_len_bound);
      name_in_bounds = omega (arith, size, (room (goal.at.put_reference-o-requires c).In-Some).1, c.loop-r.invariant.2, c.loop-r.invariant.3);
    }

pub loop-r-smaller : goal.loop-r-smaller
loop-r-smaller c =
    let p = c.in-Some.ensures.place.found in
    omega (arith, p.onward, p.within)

pub loop-r-preserved : goal.loop-r-preserved
unfolding told_reference
loop-r-preserved c =
    let a = c.args in
    let v = c.loop-r.invariant in
    let r = c.in-Some.r in
    let one = reference_bytes (told_reference a.text.now r) in
    let rest = list_bytes (sq_from a.strict a.text.now r.next) in
    let size = ap length (named (goal.at.loop-r-preserved c).In-Some) ∙ told-length a.strict a.text.now r c.in-Some.ensures.place.found.name in (
      v.0 ++ one,
      c.in-Some.ensures.place.found.within,
      omega (arith, c.put_reference-o.ensures.next, size, v.2, (room (goal.at.loop-r-preserved c).In-Some).0, length-append v.0 one),
      c.put_reference-o.auto.out ∙ v.3,
      c.put_reference-o.ensures.wrote
          ∙ ap (λ x. over c.loop-r.out c.loop-r.o (reference_bytes (record { name = x; size = r.length }))) (named (goal.at.loop-r-preserved c).In-Some)
          ∙ ap (λ o. over o c.loop-r.o one) v.4
          ∙ behind a.out.now a.start v.0 one c.loop-r.o v.2 (omega (arith, (room (goal.at.loop-r-preserved c).In-Some).0, (room (goal.at.loop-r-preserved c).In-Some).1)),
      v.5 ∙ ap (λ x. v.0 ++ x) (listed (goal.at.loop-r-preserved c).In-Some) ∙ sym (append_assoc v.0 one rest),
    )
