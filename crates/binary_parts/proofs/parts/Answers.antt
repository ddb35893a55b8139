-- `binary_parts::parts` meets its contract: after `BAM` and 1 the two parts decide.
use mathlib.Core.Path.{sym, ◌∙◌}
use Rattle.format.specs.Binary.{magic}
use Rattle.binary_parts.specs.Parts.{parts_from}
use Rattle.binary_parts.proofs.Both.{started, other-start, start-long}
use Rattle.binary_parts.proofs.Places.{parts-started, parts-other}
use Rattle.binary_parts.proofs.parts.Goals as goal
use Rattle.binary_parts.proofs.parts.Goals.{After-take_both}

pub returns-then-not-starts-clause-taken : goal.returns-then-not-starts-clause-taken
unfolding parts_from magic
returns-then-not-starts-clause-taken c = other-start c.args.bytes.now (sym c.starts.ensures ∙ c.if-not-starts.true)

pub returns-then-not-starts-clause-is : goal.returns-then-not-starts-clause-is
unfolding magic
returns-then-not-starts-clause-is c = parts-other c.args.bytes.now (sym c.starts.ensures ∙ c.if-not-starts.true)

pub take_both-requires : goal.take_both-requires
unfolding magic
take_both-requires c = start-long c.args.bytes.now (sym c.starts.ensures ∙ c.if-not-starts.false)

pub returns-clause-taken : goal.returns-clause-taken
unfolding magic
returns-clause-taken c = started c.args.bytes.now (sym c.starts.ensures ∙ c.if-not-starts.false) ∙ c.take_both.ensures.taken

pub returns-clause-is : goal.returns-clause-is
unfolding magic
returns-clause-is c = parts-started c.args.bytes.now c.take_both.result c.take_both.ensures.is (sym c.starts.ensures ∙ c.if-not-starts.false)
