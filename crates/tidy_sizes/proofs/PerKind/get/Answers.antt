-- `tidy_sizes::PerKind::get` meets its contract: an arm for each kind.
use mathlib.Core.Path.{sym, ap}
use Rattle.tidy_sizes.specs.Numbers.{get}
use Rattle.tidy_sizes.proofs.PerKind.get.Goals as goal

pub returns-in-Header : goal.returns-in-Header
unfolding get
returns-in-Header c = sym (ap (λ k. get k c.args.self) c.in-Header.is)

pub returns-in-ReferenceSequence : goal.returns-in-ReferenceSequence
unfolding get
returns-in-ReferenceSequence c = sym (ap (λ k. get k c.args.self) c.in-ReferenceSequence.is)

pub returns-in-ReadGroup : goal.returns-in-ReadGroup
unfolding get
returns-in-ReadGroup c = sym (ap (λ k. get k c.args.self) c.in-ReadGroup.is)

pub returns-in-Program : goal.returns-in-Program
unfolding get
returns-in-Program c = sym (ap (λ k. get k c.args.self) c.in-Program.is)

pub returns-in-Comment : goal.returns-in-Comment
unfolding get
returns-in-Comment c = sym (ap (λ k. get k c.args.self) c.in-Comment.is)
