-- `catalogue_kinds::find_record` meets its contract: it comes after those before it.
use mathlib.Core.Path.{ap}
use Rattle.catalogue_kinds.specs.Passing.{passing}
use Rattle.catalogue_kinds.proofs.find_record.Goals as goal

pub returns : goal.returns
unfolding passing
returns c = ap (λ p. p.at) c.pass_before-before.ensures
