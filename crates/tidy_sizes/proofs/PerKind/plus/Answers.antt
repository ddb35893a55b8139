-- `tidy_sizes::PerKind::plus` meets its contract: an arm for each kind.
use mathlib.Core.Path.{sym, ap}
use native.Mathlib.Omega.{arith}
use Rattle.tidy_sizes.specs.Numbers.{get, plus, kind_number}
use Rattle.tidy_sizes.proofs.PerKind.plus.Goals as goal

pub overflow_add-next : goal.overflow_add-next
unfolding get
overflow_add-next c = omega (arith, c.requires, ap (λ k. get k c.args.self) c.in-Header.is)

pub overflow_add-next-in-ReferenceSequence : goal.overflow_add-next-in-ReferenceSequence
unfolding get
overflow_add-next-in-ReferenceSequence c = omega (arith, c.requires, ap (λ k. get k c.args.self) c.in-ReferenceSequence.is)

pub overflow_add-next-in-ReadGroup : goal.overflow_add-next-in-ReadGroup
unfolding get
overflow_add-next-in-ReadGroup c = omega (arith, c.requires, ap (λ k. get k c.args.self) c.in-ReadGroup.is)

pub overflow_add-next-in-Program : goal.overflow_add-next-in-Program
unfolding get
overflow_add-next-in-Program c = omega (arith, c.requires, ap (λ k. get k c.args.self) c.in-Program.is)

pub overflow_add-next-in-Comment : goal.overflow_add-next-in-Comment
unfolding get
overflow_add-next-in-Comment c = omega (arith, c.requires, ap (λ k. get k c.args.self) c.in-Comment.is)

pub returns-in-Header : goal.returns-in-Header
unfolding plus get kind_number
returns-in-Header c = let a = c.args in sym (ap (λ k. plus k a.n a.self) c.in-Header.is)

pub returns-in-ReferenceSequence : goal.returns-in-ReferenceSequence
unfolding plus get kind_number
returns-in-ReferenceSequence c = let a = c.args in sym (ap (λ k. plus k a.n a.self) c.in-ReferenceSequence.is)

pub returns-in-ReadGroup : goal.returns-in-ReadGroup
unfolding plus get kind_number
returns-in-ReadGroup c = let a = c.args in sym (ap (λ k. plus k a.n a.self) c.in-ReadGroup.is)

pub returns-in-Program : goal.returns-in-Program
unfolding plus get kind_number
returns-in-Program c = let a = c.args in sym (ap (λ k. plus k a.n a.self) c.in-Program.is)

pub returns-in-Comment : goal.returns-in-Comment
unfolding plus get kind_number
returns-in-Comment c = let a = c.args in sym (ap (λ k. plus k a.n a.self) c.in-Comment.is)
