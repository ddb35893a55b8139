-- `tidy_neat::is_neat` meets its contract: an arm for each kind.
use mathlib.Core.Path.{sym, ap, ◌∙◌}
use mathlib.Core.Logic.{inl, inr}
use Rattle.tidy_neat.specs.Neat.{neat}
use Rattle.tidy_neat.proofs.is_neat.Goals as goal

pub returns-in-Header : goal.returns-in-Header
unfolding neat
returns-in-Header c = sym (ap (λ k. neat k c.args.src.now) c.in-Header.is)

pub returns-in-ReferenceSequence : goal.returns-in-ReferenceSequence
unfolding neat
returns-in-ReferenceSequence c = c.is_reference_sequence.ensures ∙ sym (ap (λ k. neat k c.args.src.now) c.in-ReferenceSequence.is)

pub returns-in-Comment : goal.returns-in-Comment
unfolding neat
returns-in-Comment c = sym (ap (λ k. neat k c.args.src.now) c.in-Comment.is)

pub returns-in-ReadGroup : goal.returns-in-ReadGroup
unfolding neat
returns-in-ReadGroup c =
    elim c.in-ReadGroup.is [ inl w ↦ c.has_tag.ensures ∙ sym (ap (λ k. neat k c.args.src.now) w) | inr w ↦ c.has_tag.ensures ∙ sym (ap (λ k. neat k c.args.src.now) w) ]
