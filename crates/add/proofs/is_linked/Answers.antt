-- `add::is_linked` meets its contract.
use Rattle.add.proofs.Prior.{nothing_is}
use Rattle.add.proofs.is_linked.Goals as goal

pub returns : goal.returns
returns c = nothing_is c.args.previous c.is_none.result c.is_none.ensures
