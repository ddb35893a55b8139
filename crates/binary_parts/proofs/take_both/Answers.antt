-- `binary_parts::take_both` meets its contract: the text is there, then the count, and then as many references.
use mathlib.Core.Path.{sym, ◌∙◌}
use Rattle.binary_parts.proofs.Both.{both-none, both-short, both-more, both-whole}
use Rattle.binary_parts.proofs.Places.{both-none-at, both-short-at, both-more-at, both-whole-at}
use Rattle.binary_parts.proofs.take_both.Goals as goal

pub returns-in_err-text-clause-taken : goal.returns-in_err-text-clause-taken
returns-in_err-text-clause-taken c = rw c.from_residual.ensures (both-none c.args.bytes.now c.args.at c.in_err-text.ensures.taken)

pub returns-in_err-text-clause-is : goal.returns-in_err-text-clause-is
returns-in_err-text-clause-is c = rw c.from_residual.ensures (both-none-at c.args.bytes.now c.args.at c.in_err-text.ensures.is)

pub returns-in_err-count-clause-taken : goal.returns-in_err-count-clause-taken
returns-in_err-count-clause-taken c =
    rw c.from_residual-in_err-count.ensures (both-short c.args.bytes.now c.args.at c.in_ok-text.text c.in_ok-text.ensures.taken c.in_err-count.ensures.taken)

pub returns-in_err-count-clause-is : goal.returns-in_err-count-clause-is
returns-in_err-count-clause-is c =
    rw c.from_residual-in_err-count.ensures (both-short-at c.args.bytes.now c.args.at c.in_ok-text.text c.in_ok-text.ensures.is c.in_err-count.ensures.is)

pub returns-then-not-is_whole_list-clause-taken : goal.returns-then-not-is_whole_list-clause-taken
returns-then-not-is_whole_list-clause-taken c =
    both-more c.args.bytes.now c.args.at c.in_ok-text.text c.in_ok-text.ensures.taken c.in_ok-count.count c.in_ok-count.ensures.taken
    (sym c.is_whole_list.ensures ∙ c.if-not-is_whole_list.true)

pub returns-then-not-is_whole_list-clause-is : goal.returns-then-not-is_whole_list-clause-is
returns-then-not-is_whole_list-clause-is c =
    both-more-at c.args.bytes.now c.args.at c.in_ok-text.text c.in_ok-text.ensures.is c.in_ok-count.count c.in_ok-count.ensures.is
    (sym c.is_whole_list.ensures ∙ c.if-not-is_whole_list.true)

pub returns-clause-taken : goal.returns-clause-taken
returns-clause-taken c =
    both-whole c.args.bytes.now c.args.at c.in_ok-text.text c.in_ok-text.ensures.taken c.in_ok-count.count c.in_ok-count.ensures.taken
    (sym c.is_whole_list.ensures ∙ c.if-not-is_whole_list.false)

pub returns-clause-stands : goal.returns-clause-stands
returns-clause-stands c = record {
  text = c.in_ok-text.ensures.inside;
  list = c.in_ok-count.ensures.inside;
  whole = sym c.is_whole_list.ensures ∙ c.if-not-is_whole_list.false;
}

pub returns-clause-is : goal.returns-clause-is
returns-clause-is c =
    both-whole-at c.args.bytes.now c.args.at c.in_ok-text.text c.in_ok-text.ensures.is c.in_ok-count.count c.in_ok-count.ensures.is
    (sym c.is_whole_list.ensures ∙ c.if-not-is_whole_list.false)
