-- `merge_references::pass_front` meets its contract: what was passed is alike, so that what is left decides.
use mathlib.Core.Path.{◌≡◌, refl, sym, ap, ◌∙◌}
use mathlib.Core.Bool.{◌&&◌}
use mathlib.Core.List.{List, ◌∷◌, ◌++◌}
use native.Mathlib.Omega.{arith}
use Rattle.merge_references.specs.Joining.{after_front}
use Rattle.format.specs.References.{Reference, same_references}
use Rattle.binary_references.specs.Next.{sq_from, told_reference}
use Rattle.binary_references.proofs.Next.{told-one, told_none}
use Rattle.merge_references.proofs.Lists.{front-end, front-short, front-turn}
use Rattle.merge_references.proofs.pass_front.Goals as goal
use Rattle.merge_references.proofs.pass_front.Goals.{After-same_reference, In-Some}

pub loop-r-init : goal.loop-r-init
loop-r-init c = (omega arith, omega arith, λ l. refl)

pub next_reference-requires : goal.next_reference-requires
next_reference-requires c = record {
  text_len_bound = c.requires.a_len_bound;
  start_in_bounds = c.loop-r.invariant.0;
}

pub returns : goal.returns
unfolding after_front
returns c =
    let a = c.args in record {
      rest = λ l. c.loop-r.invariant.2 l ∙ front-end _ _ l (c.in_default.ensures.list ∙ told_none a.strict_a a.a.now);
      within = c.loop-r.invariant.1;
    }

-- the reference of a step comes first
first : (c : In-Some)
    → (let a = c.args in let r = c.in-Some.r in
    sq_from a.strict_a a.a.now c.loop-r.at ≡ told_reference a.a.now r ∷ sq_from a.strict_a a.a.now r.next)
first e =
    let a = e.args in
    let r = e.in-Some.r in
    e.in-Some.ensures.list ∙ told-one a.strict_a a.a.now r

pub returns-in_err-n : goal.returns-in_err-n
unfolding after_front
returns-in_err-n c =
    let a = c.args in
    rw c.from_residual.ensures
    (record {
      rest = λ l. c.loop-r.invariant.2 l ∙ front-short _ _ l _ _ (first (goal.at.returns-in_err-n c).In-Some) (c.in_err-n.ensures.list ∙ told_none a.strict_m a.m.now);
      within = tt;
    })

pub same_reference-requires : goal.same_reference-requires
same_reference-requires c = record {
  len_in_bounds = c.in_ok-n.ensures.place.found.name;
  len_in_bounds_2 = c.in-Some.ensures.place.found.name;
}

-- it is compared with the next of the merged list, and then those that are left
told : (c : After-same_reference) (l : List Reference)
    → (let a = c.args in let x = c.in-Some.r in let y = c.in_ok-n.n in
    same_references (sq_from a.strict_m a.m.now 0) (sq_from a.strict_a a.a.now 0 ++ l)
    ≡ c.same_reference.result && same_references (sq_from a.strict_m a.m.now y.next) (sq_from a.strict_a a.a.now x.next ++ l))
told c l =
    let a = c.args in
    let x = c.in-Some.r in
    let y = c.in_ok-n.n in
    c.loop-r.invariant.2 l
    ∙ front-turn _ _ l (told_reference a.a.now x) (sq_from a.strict_a a.a.now x.next) (first (goal.at.After-same_reference c).In-Some) (told_reference a.m.now y) (sq_from a.strict_m a.m.now y.next)
    (c.in_ok-n.ensures.list ∙ told-one a.strict_m a.m.now y)
    ∙ ap (λ t. t && same_references (sq_from a.strict_m a.m.now y.next) (sq_from a.strict_a a.a.now x.next ++ l)) (sym c.same_reference.ensures)

pub returns-then-not-same_reference : goal.returns-then-not-same_reference
unfolding after_front
returns-then-not-same_reference c =
    let a = c.args in
    let x = c.in-Some.r in
    let y = c.in_ok-n.n in record {
      rest = λ l. told (goal.at.returns-then-not-same_reference c).After-same_reference l ∙ ap (λ t. t && same_references (sq_from a.strict_m a.m.now y.next) (sq_from a.strict_a a.a.now x.next ++ l)) c.if-not-same_reference.true;
      within = tt;
    }

pub loop-r-smaller : goal.loop-r-smaller
loop-r-smaller c =
    omega (arith, c.in-Some.ensures.place.found.onward, c.in-Some.ensures.place.found.within)

pub loop-r-preserved : goal.loop-r-preserved
loop-r-preserved c =
    let a = c.args in
    let x = c.in-Some.r in
    let y = c.in_ok-n.n in
    (c.in-Some.ensures.place.found.within, c.in_ok-n.ensures.place.found.within, λ l. told (goal.at.loop-r-preserved c).After-same_reference l ∙ ap (λ t. t && same_references (sq_from a.strict_m a.m.now y.next) (sq_from a.strict_a a.a.now x.next ++ l)) c.if-not-same_reference.false)
