-- `tidy_neat::is_ready` meets its contract: only an SQ has a name to look at.
use Prim.Native.Nat.{ℕ}
use mathlib.Core.Path.{◌≡◌, refl, sym, ap, ◌∙◌}
use mathlib.Core.List.{List}
use Rattle.format.specs.declared.Kind.{Kind}
use Rattle.format.specs.declared.Kind.TheVariants.{Header, ReferenceSequence, ReadGroup, Program, Comment}
use Rattle.tidy_neat.specs.Neat.{neat, ready}
use Rattle.tidy_neat.proofs.is_ready.Goals as goal

-- another kind has no name
nameless : (s : List ℕ) (k : Kind) → (k ≡ ReferenceSequence → ⊥) → neat k s ≡ ready k s
unfolding ready
nameless s Header h = refl
nameless s ReferenceSequence h = absurd (h refl)
nameless s ReadGroup h = refl
nameless s Program h = refl
nameless s Comment h = refl

pub returns-in-ReferenceSequence : goal.returns-in-ReferenceSequence
unfolding ready
returns-in-ReferenceSequence c = c.is_named_sequence.ensures ∙ sym (ap (λ k. ready k c.args.src.now) c.in-ReferenceSequence.is)

pub returns-in_default : goal.returns-in_default
returns-in_default c = c.is_neat.ensures ∙ nameless _ _ c.in_default.not-ReferenceSequence
