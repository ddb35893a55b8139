-- `tidy_parts::kind_first` meets its contract: an arm for each kind.
use mathlib.Core.Path.{sym, ap}
use Rattle.accepted.specs.Spelled.{kind₀}
use Rattle.tidy_parts.proofs.kind_first.Goals as goal

pub returns-in-Header : goal.returns-in-Header
unfolding kind₀
returns-in-Header c = sym (ap kind₀ c.in-Header.is)

pub returns-in-ReferenceSequence : goal.returns-in-ReferenceSequence
unfolding kind₀
returns-in-ReferenceSequence c = sym (ap kind₀ c.in-ReferenceSequence.is)

pub returns-in-ReadGroup : goal.returns-in-ReadGroup
unfolding kind₀
returns-in-ReadGroup c = sym (ap kind₀ c.in-ReadGroup.is)

pub returns-in-Program : goal.returns-in-Program
unfolding kind₀
returns-in-Program c = sym (ap kind₀ c.in-Program.is)

pub returns-in-Comment : goal.returns-in-Comment
unfolding kind₀
returns-in-Comment c = sym (ap kind₀ c.in-Comment.is)
