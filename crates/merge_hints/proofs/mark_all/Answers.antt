-- `merge_hints::mark_all` meets its contract: each reference of A marks the slot of the one of B that is like it.
use mathlib.Core.Path.{◌≡◌, refl, ◌∙◌}
use mathlib.Core.List.{◌∷◌}
use native.Mathlib.Omega.{arith}
use Rattle.binary_references.specs.Next.{sq_from, told_reference}
use Rattle.binary_references.proofs.Next.{told-one}
use Rattle.merge_references.proofs.Names.{from_start, from_next}
use Rattle.merge_hints.proofs.Laws.{agreed-from}
use Rattle.merge_hints.proofs.mark_all.Goals as goal

pub loop-r-init : goal.loop-r-init
loop-r-init c = (from_start c.args.strict_a c.args.a.now, c.requires.placed, c.requires.marked, refl)

pub next_reference-requires : goal.next_reference-requires
next_reference-requires c = record {
  text_len_bound = c.requires.a_len_bound.0;
  start_in_bounds = c.loop-r.invariant.0.within;
}

pub shape_of-area : goal.shape_of-area
shape_of-area c = c.loop-r.invariant.3

pub returns : goal.returns
returns c = c.loop-r.invariant.2

pub mark_one-requires : goal.mark_one-requires
mark_one-requires c = record {
  area_nonzero = omega (arith, c.loop-r.invariant.3, c.requires.area_nonzero);
  b_len_bound = c.requires.b_len_bound;
  len_in_bounds = c.in-Some.ensures.place.found.name;
  placed_2 = c.loop-r.invariant.1;
}

pub loop-r-smaller : goal.loop-r-smaller
loop-r-smaller c = omega (arith, c.in-Some.ensures.place.found.onward, c.in-Some.ensures.place.found.within)

pub loop-r-preserved : goal.loop-r-preserved
loop-r-preserved c =
    let a = c.args in
    let r = c.in-Some.r in
    let e : sq_from a.strict_a a.a.now c.loop-r.at ≡ told_reference a.a.now r ∷ sq_from a.strict_a a.a.now r.next =
    c.in-Some.ensures.list ∙ told-one a.strict_a a.a.now r in (
      from_next a.strict_a a.a.now c.loop-r.at r.next (told_reference a.a.now r) c.loop-r.invariant.0 e c.in-Some.ensures.place.found.within,
      c.mark_one.ensures.placed,
      c.mark_one.ensures.marked (sq_from a.strict_a a.a.now 0) c.loop-r.invariant.2 (agreed-from a.strict_a a.a.now c.loop-r.at r.next (told_reference a.a.now r) c.loop-r.invariant.0 c.requires.a_len_bound.1 e),
      c.mark_one.auto.area ∙ c.loop-r.invariant.3,
    )
