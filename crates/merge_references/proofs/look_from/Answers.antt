-- `merge_references::look_from` meets its contract: what the references from the place on have is what all have.
use mathlib.Core.Path.{◌≡◌, refl, sym, ◌∙◌}
use mathlib.Core.List.{◌∷◌}
use native.Mathlib.Omega.{arith}
use Rattle.binary_references.specs.Next.{sq_from, told_reference}
use Rattle.binary_references.proofs.Next.{told-one, told_none}
use Rattle.merge_references.specs.Joining.{From}
use Rattle.merge_references.proofs.Names.{met-none, met-named, met-past, from_next}
use Rattle.merge_references.proofs.look_from.Goals as goal
use Rattle.merge_references.proofs.look_from.Goals.{After-same_name}

pub loop-r-init : goal.loop-r-init
loop-r-init c = (c.requires.from, refl)

pub next_reference-requires : goal.next_reference-requires
next_reference-requires c = record {
  text_len_bound = c.requires.a_len_bound;
  start_in_bounds = c.loop-r.invariant.0.within;
}

pub returns : goal.returns
returns c =
    let a = c.args in record {
      met = sym (c.loop-r.invariant.1 ∙ met-none (told_reference a.b.now a.q) _ (c.in_default.ensures.list ∙ told_none a.strict a.a.now));
      behind = tt;
    }

pub same_name-requires : goal.same_name-requires
same_name-requires c = record {
  len_in_bounds = c.requires.len_in_bounds;
  len_in_bounds_2 = c.in-Some.ensures.place.found.name;
}

-- the reference of a step comes first
first : (c : After-same_name)
    → (let a = c.args in let r = c.in-Some.r in
    sq_from a.strict a.a.now c.loop-r.at ≡ told_reference a.a.now r ∷ sq_from a.strict a.a.now r.next)
first c =
    let a = c.args in
    let r = c.in-Some.r in
    c.in-Some.ensures.list ∙ told-one a.strict a.a.now r

-- and those after it are the last of the text
behind : (c : After-same_name) → (let a = c.args in From a.strict a.a.now c.in-Some.r.next)
behind c =
    let a = c.args in
    from_next a.strict a.a.now c.loop-r.at c.in-Some.r.next _ c.loop-r.invariant.0 (first c) c.in-Some.ensures.place.found.within

pub returns-then-same_name : goal.returns-then-same_name
unfolding told_reference
returns-then-same_name c = record {
  met = sym (c.loop-r.invariant.1 ∙ met-named (told_reference c.args.b.now c.args.q) _ _ _ (first (goal.at.returns-then-same_name c).After-same_name) (sym c.same_name.ensures ∙ c.if-same_name.true));
  behind = behind (goal.at.returns-then-same_name c).After-same_name;
}

pub loop-r-smaller : goal.loop-r-smaller
loop-r-smaller c =
    omega (arith, c.in-Some.ensures.place.found.onward, c.in-Some.ensures.place.found.within)

pub loop-r-preserved : goal.loop-r-preserved
loop-r-preserved c =
    (behind (goal.at.loop-r-preserved c).After-same_name, c.loop-r.invariant.1 ∙ met-past (told_reference c.args.b.now c.args.q) _ _ _ (first (goal.at.loop-r-preserved c).After-same_name) (sym c.same_name.ensures ∙ c.if-same_name.false))
