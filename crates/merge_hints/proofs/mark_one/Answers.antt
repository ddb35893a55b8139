-- `merge_hints::mark_one` meets its contract: the slot that is marked holds a reference with the name and the length.
use mathlib.Core.Path.{refl, sym, ap, subst, ◌∙◌}
use native.Mathlib.Omega.{arith}
use native.Mathlib.Nat.{mod-lt}
use lib.ListN.{length, get_or, length-set}
use Rattle.binary_references.specs.Next.{sq_from, told_reference}
use Rattle.binary_references.proofs.Next.{told-one}
use Rattle.merge_hints.specs.Hints.{slot_offset, Placed, Marked}
use Rattle.merge_hints.proofs.Laws.{placed-mark, marked-mark, known_by}
use Rattle.merge_hints.proofs.mark_one.Goals as goal

pub number-h-requires : goal.number-h-requires
number-h-requires c = c.requires.len_in_bounds

pub nonzero_rem-at : goal.nonzero_rem-at
nonzero_rem-at c = c.requires.area_nonzero

pub loop-init : goal.loop-init
loop-init c = (mod-lt c.number-h.result {m = length c.args.area.now} c.requires.area_nonzero, refl, refl)

pub offset_bounds-area-at : goal.offset_bounds-area-at
offset_bounds-area-at c = omega arith

pub bounds-area-at : goal.bounds-area-at
bounds-area-at c = omega (arith, c.loop.invariant.0, c.loop.invariant.1, ap length c.loop.invariant.2)

pub shape_of-area-then-place-eq0 : goal.shape_of-area-then-place-eq0
shape_of-area-then-place-eq0 c = ap length c.loop.invariant.2

pub returns-then-place-eq0 : goal.returns-then-place-eq0
returns-then-place-eq0 c =
    let a = c.args in record {
      placed = subst (Placed a.b.now) (sym c.loop.invariant.2) c.requires.placed_2;
      marked = λ rs h g. subst (Marked a.strict a.b.now rs) (sym c.loop.invariant.2) h;
    }

pub overflow_sub-v : goal.overflow_sub-v
overflow_sub-v c = omega arith

pub overflow_sub-place : goal.overflow_sub-place
overflow_sub-place c = omega (arith, c.if-place-eq0.false)

pub overflow_cast-place : goal.overflow_cast-place
overflow_cast-place c = omega arith

pub next_reference-requires : goal.next_reference-requires
unfolding slot_offset
next_reference-requires c = record {
  text_len_bound = c.requires.b_len_bound;
  start_in_bounds = (subst (Placed c.args.b.now) (sym c.loop.invariant.2) c.requires.placed_2).within c.loop.at;
}

pub same_reference-requires : goal.same_reference-requires
same_reference-requires c = record {
  len_in_bounds = c.in-Some.ensures.place.found.name;
  len_in_bounds_2 = c.requires.len_in_bounds;
}

pub overflow_add-area : goal.overflow_add-area
overflow_add-area c = omega (arith, c.if-v-place.true, c.tag-own.ensures.1, c.tag-own.ensures.2)

pub offset_bounds-area-at-then-same_reference : goal.offset_bounds-area-at-then-same_reference
offset_bounds-area-at-then-same_reference c = omega arith

pub bounds-area-at-then-same_reference : goal.bounds-area-at-then-same_reference
bounds-area-at-then-same_reference c = omega (arith, c.loop.invariant.0, c.loop.invariant.1, ap length c.loop.invariant.2)

pub shape_of-area-then-same_reference : goal.shape_of-area-then-same_reference
shape_of-area-then-same_reference c = length-set c.loop.area _ _ ∙ ap length c.loop.invariant.2

pub returns-then-same_reference : goal.returns-then-same_reference
unfolding slot_offset
returns-then-same_reference c =
    let a = c.args in
    let t = c.args.b.now in
    let q = c.in-Some.q in
    let v = get_or c.loop.area c.loop.at 0 in
    let placed : Placed t c.loop.area = subst (Placed t) (sym c.loop.invariant.2) c.requires.placed_2 in record {
      placed = placed-mark t c.loop.area c.loop.at v (placed.within c.loop.at) placed;
      marked = λ rs h g. marked-mark t c.loop.area c.loop.at v a.strict rs
          (known_by a.strict t rs (slot_offset v) (told_reference t q) (told_reference a.a.now a.r) (sq_from a.strict t q.next)
          (c.in-Some.ensures.list ∙ told-one a.strict t q) (sym c.same_reference.ensures ∙ c.if-same_reference.true) g)
          (subst (Marked a.strict t rs) (sym c.loop.invariant.2) h);
    }

pub after-at-requires : goal.after-at-requires
after-at-requires c = omega (arith, c.loop.invariant.0, c.loop.invariant.1)

pub loop-preserved : goal.loop-preserved
loop-preserved c = (c.after-at.ensures, refl, c.loop.invariant.2)

pub shape_of-area : goal.shape_of-area
shape_of-area c = ap length c.loop.invariant.2

pub returns : goal.returns
returns c =
    let a = c.args in record {
      placed = subst (Placed a.b.now) (sym c.loop.invariant.2) c.requires.placed_2;
      marked = λ rs h g. subst (Marked a.strict a.b.now rs) (sym c.loop.invariant.2) h;
    }
