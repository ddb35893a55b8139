-- `merge_lists::is_assigned` meets its contract: each way out is what the definition says there.
use mathlib.Core.Path.{sym, ap₂, ◌∙◌}
use Rattle.merge_lists.specs.Marks.{hit_from}
use Rattle.merge_lists.proofs.Marks.{short-a, short-b, bad-a, bad-b, both}
use Rattle.merge_lists.proofs.is_assigned.Goals as goal
use Rattle.merge_lists.proofs.is_assigned.Goals.{then-list_a-a-via-then-list_a-a, then-list_a-a-via-else-list_a-a+then-list_b-b}

pub returns-then-list_a-a : goal.returns-then-list_a-a
returns-then-list_a-a c =
    let a = c.args in
    sym
    (elim c.then-list_a-a.branch [
      | then-list_a-a-via-then-list_a-a w ↦ short-a a.a a.b a.count c.requires a.list_a.now a.list_b.now w.if-list_a-a.true
      | then-list_a-a-via-else-list_a-a+then-list_b-b w ↦ short-b a.a a.b a.count c.requires a.list_a.now a.list_b.now w.if-list_b-b.true
    ])

pub returns-in_default : goal.returns-in_default
returns-in_default c =
    let a = c.args in
    sym (bad-a a.a a.b a.count c.requires a.list_a.now a.list_b.now (sym c.in_default.ensures.good))

pub returns-in_default-mark_list : goal.returns-in_default-mark_list
returns-in_default-mark_list c =
    let a = c.args in
    sym (bad-b a.a a.b a.count c.requires a.list_a.now a.list_b.now (sym c.in_default-mark_list.ensures.good))

pub returns : goal.returns
returns c =
    let a = c.args in
    c.is_covered.ensures
    ∙ ap₂ (λ x y. hit_from x y 0 a.count) c.in-Some.ensures.hits c.in-Some-mark_list.ensures.hits
    ∙ sym (both a.a a.b a.count c.requires a.list_a.now a.list_b.now c.if-list_a-a.false c.if-list_b-b.false (sym c.in-Some.ensures.good) (sym c.in-Some-mark_list.ensures.good))
