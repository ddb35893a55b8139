-- `format::Version::is_below` meets its contract: the derived order compares the majors, then the minors. Assumes nothing.
use Rattle.std.proofs.Common.{rules}
use Rattle.format.specs.Version.{is_below}
use Rattle.format.proofs.Version.is_below.Goals as goal

pub returns : goal.returns
unfolding is_below
returns c = grind (rules, c.lt.ensures)
