-- `record_parser::parse_value` meets its contract: a comment, or fields. Assumes nothing.
use Prim.Native.Nat.{◌+◌}
use mathlib.Core.Path.{sym, ap, ◌∙◌}
use native.Mathlib.Omega.{arith}
use lib.ListN.{drop}
use Rattle.format.specs.Records.{body}
use Rattle.record.specs.Head.{head_of}
use Rattle.record_parser.proofs.parse_value.Goals as goal

pub returns-in-Comment : goal.returns-in-Comment
unfolding body
returns-in-Comment c =
    let a = c.args in
    c.parse_comment.ensures ∙ sym (ap (λ k. head_of (body a.strict k (a.at + 3) (drop 3 a.src.now))) c.in-Comment.is)

pub returns-in-ReferenceSequence : goal.returns-in-ReferenceSequence
unfolding body
returns-in-ReferenceSequence c =
    let a = c.args in
    c.parse_reference.ensures ∙ sym (ap (λ k. head_of (body a.strict k (a.at + 3) (drop 3 a.src.now))) c.in-ReferenceSequence.is)

pub returns-in-Header : goal.returns-in-Header
unfolding body
returns-in-Header c = grind arith
