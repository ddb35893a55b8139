-- `key_at::ends` meets its contract: the byte at `at`, if there is one, says whether a key goes on.
use mathlib.Core.Path.{sym, ◌∙◌}
use borrow.Author.Tests.{le-leb}
use Rattle.key_at.proofs.Word.{ends-none, ends_at}
use Rattle.key_at.proofs.ends.Goals as goal

pub returns-then-text-at : goal.returns-then-text-at
returns-then-text-at c = le-leb _ _ c.if-text-at.true ∙ sym (ends-none c.args.text.now c.args.at c.if-text-at.true)

pub returns-else-text-at : goal.returns-else-text-at
returns-else-text-at c = sym (ends_at c.args.text.now c.args.at c.if-text-at.false)
