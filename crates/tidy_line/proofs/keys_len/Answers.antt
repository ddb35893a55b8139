-- `tidy_line::keys_len` meets its contract.
use mathlib.Core.Path.{sym, ap}
use native.Mathlib.Omega.{arith}
use Rattle.tidy_line.specs.Heads.{keys_length}
use Rattle.tidy_line.proofs.keys_len.Goals as goal

pub overflow_add-result-in-ReferenceSequence : goal.overflow_add-result-in-ReferenceSequence
overflow_add-result-in-ReferenceSequence c = omega (arith, ap (λ k. keys_length k c.args.keys) c.in-ReferenceSequence.is, c.requires)

pub overflow_add-result-in-ReferenceSequence-2 : goal.overflow_add-result-in-ReferenceSequence-2
overflow_add-result-in-ReferenceSequence-2 c = omega (arith, ap (λ k. keys_length k c.args.keys) c.in-ReferenceSequence.is, c.requires)

pub returns-in-ReferenceSequence : goal.returns-in-ReferenceSequence
returns-in-ReferenceSequence c = sym (ap (λ k. keys_length k c.args.keys) c.in-ReferenceSequence.is)

pub returns-in-Comment : goal.returns-in-Comment
returns-in-Comment c = sym (ap (λ k. keys_length k c.args.keys) c.in-Comment.is)
