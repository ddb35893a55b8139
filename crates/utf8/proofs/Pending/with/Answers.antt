-- `utf8::Pending::with` meets its contract: a first byte, or a later one, which is in its range or is not.
use mathlib.Core.Path.{sym, ap, ◌∙◌}
use Rattle.utf8.specs.Pending.{pending_of}
use Rattle.utf8.proofs.Step.{inside, under, beyond, after_none, after-miss, after_next}
use Rattle.utf8.proofs.Pending.with.Goals as goal
use Rattle.utf8.proofs.Pending.with.Goals.{then-b-self-via-then-b-self, then-b-self-via-else-b-self+then-self-b}

pub returns-then-self-eq0 : goal.returns-then-self-eq0
returns-then-self-eq0 c = c.first.ensures ∙ ap pending_of (sym (after_none _ _ c.if-self-eq0.true))

pub returns-then-b-self : goal.returns-then-b-self
unfolding pending_of
returns-then-b-self c =
    elim c.then-b-self.branch [
      | then-b-self-via-then-b-self w ↦ c.new.ensures ∙ ap pending_of (sym (after-miss _ _ c.if-self-eq0.false (under _ _ _ w.if-b-self.true)))
      | then-b-self-via-else-b-self+then-self-b w ↦ c.new.ensures ∙ ap pending_of (sym (after-miss _ _ c.if-self-eq0.false (beyond _ _ _ w.if-self-b.true)))
    ]

pub returns : goal.returns
returns c = c.new-2.ensures ∙ sym (after_next _ _ c.if-self-eq0.false (inside _ _ _ c.if-b-self.false c.if-self-b.false))
