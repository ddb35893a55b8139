-- `add::is_too_long` meets its contract.
use mathlib.Core.Path.{refl}
use lib.ListN.{length}
use borrow.Author.Tests.{lt-ltb, le-ltb}
use Rattle.add.proofs.is_too_long.Goals as goal

pub returns-then-prefix-gt-LONGEST : goal.returns-then-prefix-gt-LONGEST
returns-then-prefix-gt-LONGEST c = rw (lt-ltb 16777216 (length c.args.prefix.now) c.if-prefix-gt-LONGEST.true) refl

pub returns-else-prefix-gt-LONGEST : goal.returns-else-prefix-gt-LONGEST
returns-else-prefix-gt-LONGEST c = rw (le-ltb 16777216 (length c.args.prefix.now) c.if-prefix-gt-LONGEST.false) refl
