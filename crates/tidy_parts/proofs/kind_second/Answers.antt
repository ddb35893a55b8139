-- `tidy_parts::kind_second` meets its contract: an arm for each kind.
use mathlib.Core.Path.{sym, ap}
use Rattle.accepted.specs.Spelled.{kind₁}
use Rattle.tidy_parts.proofs.kind_second.Goals as goal

pub returns-in-Header : goal.returns-in-Header
unfolding kind₁
returns-in-Header c = sym (ap kind₁ c.in-Header.is)

pub returns-in-ReferenceSequence : goal.returns-in-ReferenceSequence
unfolding kind₁
returns-in-ReferenceSequence c = sym (ap kind₁ c.in-ReferenceSequence.is)

pub returns-in-ReadGroup : goal.returns-in-ReadGroup
unfolding kind₁
returns-in-ReadGroup c = sym (ap kind₁ c.in-ReadGroup.is)

pub returns-in-Program : goal.returns-in-Program
unfolding kind₁
returns-in-Program c = sym (ap kind₁ c.in-Program.is)

pub returns-in-Comment : goal.returns-in-Comment
unfolding kind₁
returns-in-Comment c = sym (ap kind₁ c.in-Comment.is)
