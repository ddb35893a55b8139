-- `merge_judge::judge_untangled` meets its contract: 30, 31 and 32 in that order.
use mathlib.Core.Path.{◌≡◌, sym, ap, ap₂, ◌∙◌}
use mathlib.Core.Bool.{true}
use lib.ListN.{length}
use Rattle.accepted.specs.Read.{records_of}
use Rattle.format.specs.References.{sq_list}
use Rattle.binary_references.specs.Next.{sq_from}
use Rattle.format.specs.Merge.{is_joined, assigned, shapes}
use Rattle.merge_programs.proofs.Texts.{small, count-shapes, count-few}
use Rattle.merge_judge.specs.Judged.{verdict_of}
use Rattle.merge_judge.proofs.Listed.{list-is, list-apart}
use Rattle.merge_judge.proofs.Steps.{judged-30, judged-31, judged-first, judged-second, judged-merged, first-list, second-list}
use Rattle.merge_judge.proofs.judge_untangled.Goals as goal
use Rattle.merge_judge.proofs.judge_untangled.Goals.{After-is_assigned, After-is_joined, Else-not-is_assigned, Else-not-is_joined}

-- the SQ lists are those of the records
lists : (c : After-is_joined) → (let a = c.args in c.is_joined.result ≡ is_joined (sq_list (records_of a.a.now)) (sq_list (records_of a.b.now)) (sq_list (records_of a.m.now)))
lists c =
    let a = c.args in
    c.is_joined.ensures
    ∙ ap₂ (λ x y. is_joined x y (sq_from a.of.merged.strict a.m.now 0)) (list-is a.a.now a.of.a c.requires.untangled) (list-is a.b.now a.of.b c.requires.untangled_2)
    ∙ ap (is_joined (sq_list (records_of a.a.now)) (sq_list (records_of a.b.now))) (list-is a.m.now a.of.merged c.requires.untangled_3)

joins : (c : Else-not-is_joined) → (let a = c.args in is_joined (sq_list (records_of a.a.now)) (sq_list (records_of a.b.now)) (sq_list (records_of a.m.now)) ≡ true)
joins c = sym (lists (goal.at.Else-not-is_joined c).After-is_joined) ∙ c.if-not-is_joined.false

-- as many programs as shapes
assigns : (c : After-is_assigned)
    → (let a = c.args in c.is_assigned.result ≡ assigned (length (shapes (records_of a.a.now))) (length (shapes (records_of a.b.now))) (length (shapes (records_of a.m.now))) a.list_a.now a.list_b.now)
assigns c =
    let a = c.args in
    c.is_assigned.ensures
    ∙ ap₂ (λ x y. assigned x y a.of.merged.parents.count a.list_a.now a.list_b.now) (count-shapes a.a.now a.of.a c.requires.untangled) (count-shapes a.b.now a.of.b c.requires.untangled_2)
    ∙ ap (λ z. assigned (length (shapes (records_of a.a.now))) (length (shapes (records_of a.b.now))) z a.list_a.now a.list_b.now) (count-shapes a.m.now a.of.merged c.requires.untangled_3)

assigned-all : (c : Else-not-is_assigned)
    → (let a = c.args in assigned (length (shapes (records_of a.a.now))) (length (shapes (records_of a.b.now))) (length (shapes (records_of a.m.now))) a.list_a.now a.list_b.now ≡ true)
assigned-all c = sym (assigns (goal.at.Else-not-is_assigned c).After-is_assigned) ∙ c.if-not-is_assigned.false

pub is_joined-requires : goal.is_joined-requires
is_joined-requires c =
    let a = c.args in
    record {
      small-a = small a.a.now a.of.a c.requires.untangled;
      small_b = small a.b.now a.of.b c.requires.untangled_2;
      small-m = small a.m.now a.of.merged c.requires.untangled_3;
      apart-a = list-apart a.a.now a.of.a c.requires.untangled;
      apart-m = list-apart a.m.now a.of.merged c.requires.untangled_3;
    }

pub returns-then-not-is_joined : goal.returns-then-not-is_joined
unfolding verdict_of
returns-then-not-is_joined c =
    let a = c.args in
    sym (ap verdict_of (judged-30 (records_of a.a.now) (records_of a.b.now) (records_of a.m.now) a.list_a.now a.list_b.now (sym (lists (goal.at.returns-then-not-is_joined c).After-is_joined) ∙ c.if-not-is_joined.true)))

pub is_assigned-requires : goal.is_assigned-requires
is_assigned-requires c = count-few c.args.m.now c.args.of.merged c.requires.untangled_3

pub returns-then-not-is_assigned : goal.returns-then-not-is_assigned
unfolding verdict_of
returns-then-not-is_assigned c =
    let a = c.args in
    sym (ap verdict_of (judged-31 (records_of a.a.now) (records_of a.b.now) (records_of a.m.now) a.list_a.now a.list_b.now (joins (goal.at.returns-then-not-is_assigned c).Else-not-is_joined) (sym (assigns (goal.at.returns-then-not-is_assigned c).After-is_assigned) ∙ c.if-not-is_assigned.true)))

pub has_images-requires : goal.has_images-requires
has_images-requires c =
    let a = c.args in
    let f = first-list a.of.a.parents.count a.of.b.parents.count a.of.merged.parents.count a.list_a.now a.list_b.now (sym c.is_assigned.ensures ∙ c.if-not-is_assigned.false) in record {
      untangled = c.requires.untangled;
      untangled_2 = c.requires.untangled_3;
      list_len = f.0;
      list_value = f.1;
    }

pub returns-then-not-has_images : goal.returns-then-not-has_images
unfolding verdict_of
returns-then-not-has_images c =
    let a = c.args in
    sym (ap verdict_of (judged-first (records_of a.a.now) (records_of a.b.now) (records_of a.m.now) a.list_a.now a.list_b.now (joins (goal.at.returns-then-not-has_images c).Else-not-is_joined) (assigned-all (goal.at.returns-then-not-has_images c).Else-not-is_assigned) (sym c.has_images.ensures ∙ c.if-not-has_images.true)))

pub has_images-requires-2 : goal.has_images-requires-2
has_images-requires-2 c =
    let a = c.args in
    let f = second-list a.of.a.parents.count a.of.b.parents.count a.of.merged.parents.count a.list_a.now a.list_b.now (sym c.is_assigned.ensures ∙ c.if-not-is_assigned.false) in record {
      untangled = c.requires.untangled_2;
      untangled_2 = c.requires.untangled_3;
      list_len = f.0;
      list_value = f.1;
    }

pub returns-then-not-has_images-2 : goal.returns-then-not-has_images-2
unfolding verdict_of
returns-then-not-has_images-2 c =
    let a = c.args in
    sym (ap verdict_of (judged-second (records_of a.a.now) (records_of a.b.now) (records_of a.m.now) a.list_a.now a.list_b.now (joins (goal.at.returns-then-not-has_images-2 c).Else-not-is_joined) (assigned-all (goal.at.returns-then-not-has_images-2 c).Else-not-is_assigned) (sym c.has_images.ensures ∙ c.if-not-has_images.false) (sym c.has_images-2.ensures ∙ c.if-not-has_images-2.true)))

pub returns : goal.returns
unfolding verdict_of
returns c =
    let a = c.args in
    sym (ap verdict_of (judged-merged (records_of a.a.now) (records_of a.b.now) (records_of a.m.now) a.list_a.now a.list_b.now (joins (goal.at.returns c).Else-not-is_joined) (assigned-all (goal.at.returns c).Else-not-is_assigned) (sym c.has_images.ensures ∙ c.if-not-has_images.false) (sym c.has_images-2.ensures ∙ c.if-not-has_images-2.false)))
