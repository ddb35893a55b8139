-- `merge_joined::pass_new` meets its contract: the next of the merged list decides.
use mathlib.Core.Path.{refl, sym, ap, ◌∙◌}
use mathlib.Core.Bool.{false≢true}
use mathlib.Core.List.{◌∷◌}
use Rattle.binary_references.specs.Next.{told_reference, told_list}
use Rattle.binary_references.proofs.Next.{told-one, told_none}
use Rattle.merge_joined.proofs.Laws.{passed-spent, passed-new, gone-other, gone-none, found-ahead}
use Rattle.merge_joined.proofs.pass_new.Goals as goal

pub returns-in_default : goal.returns-in_default
returns-in_default c =
    let a = c.args in record {
      passed = λ rs r. passed-spent rs a.of.b a.b.now a.of.merged a.m.now a.left r (c.in_default.ensures.list ∙ told_none a.of.b a.b.now);
      ahead = λ d. absurd (false≢true d);
    }

pub returns-in_default-ahead : goal.returns-in_default-ahead
returns-in_default-ahead c =
    let a = c.args in
    let q = c.in-Some.q in
    let p = c.in-Some.ensures.place.found in record {
      name = p.name;
      within = p.within;
      first = c.in-Some.ensures.list ∙ told-one a.of.b a.b.now q;
      onward = p.onward;
      gone = λ k. gone-none _ k (told_reference a.b.now q) (ap (told_list a.of.merged a.m.now) c.in_default-ahead.is ∙ told_none a.of.merged a.m.now);
    }

pub returns-then-not-same_name : goal.returns-then-not-same_name
returns-then-not-same_name c =
    let a = c.args in
    let q = c.in-Some.q in
    let n = c.in-Some-ahead.n in
    let p = c.in-Some.ensures.place.found in record {
      name = p.name;
      within = p.within;
      first = c.in-Some.ensures.list ∙ told-one a.of.b a.b.now q;
      onward = p.onward;
      gone = λ k. gone-other _ _ k (told_reference a.b.now q) (told_reference a.m.now n) (ap (told_list a.of.merged a.m.now) c.in-Some-ahead.is ∙ told-one a.of.merged a.m.now n)
          (sym c.same_name.ensures ∙ c.if-not-same_name.true);
    }

pub returns : goal.returns
unfolding told_reference
returns c =
    let a = c.args in
    let q = c.in-Some.q in
    let n = c.in-Some-ahead.n in
    let p = c.in-Some.ensures.place.found in
    let one = c.in-Some.ensures.list ∙ told-one a.of.b a.b.now q in
    let two = ap (told_list a.of.merged a.m.now) c.in-Some-ahead.is ∙ told-one a.of.merged a.m.now n ∙ ap (λ l. told_reference a.m.now n ∷ l) c.next_reference-2.ensures.list in record {
      passed = λ rs r. passed-new rs a.of.b a.b.now a.of.merged a.m.now a.left r (told_reference a.b.now q) q.next one p.within p.onward c.requires.apart
          (told_reference a.m.now n) c.next_reference-2.result two (found-ahead a.of.merged a.m.now n.next c.next_reference-2.result c.next_reference-2.ensures.place)
          (sym c.same_name.ensures ∙ c.if-not-same_name.false) _ refl;
      ahead = λ d. p.onward;
    }
