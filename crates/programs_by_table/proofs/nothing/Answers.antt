-- `programs_by_table::nothing` meets its contract.
use mathlib.Core.Path.{refl}
use Rattle.programs_by_table.specs.Plans.{no_graph_of}
use Rattle.programs_by_table.proofs.nothing.Goals as goal

pub returns : goal.returns
unfolding no_graph_of
returns c = refl
