-- `programs_by_table::stopped` meets its contract.
use mathlib.Core.Path.{refl}
use Rattle.programs_by_table.specs.Plans.{stopped_plan_of}
use Rattle.programs_by_table.proofs.stopped.Goals as goal

pub returns : goal.returns
unfolding stopped_plan_of
returns c = refl
