-- `merge_references::same_reference` meets its contract: the lengths decide, and then the names.
use mathlib.Core.Path.{sym, ◌∙◌}
use Rattle.binary_references.specs.Next.{told_reference}
use Rattle.merge_references.proofs.Lists.{other-size, one_size}
use Rattle.merge_references.proofs.same_reference.Goals as goal

pub returns-then-r-q : goal.returns-then-r-q
unfolding told_reference
returns-then-r-q c =
    let a = c.args in
    sym (other-size (told_reference a.a.now a.r) (told_reference a.b.now a.q) c.if-r-q.true)

pub returns : goal.returns
unfolding told_reference
returns c =
    let a = c.args in
    c.same_name.ensures ∙ sym (one_size (told_reference a.a.now a.r) (told_reference a.b.now a.q) c.if-r-q.false)
