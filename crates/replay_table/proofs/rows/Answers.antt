-- `replay_table::rows` is safe. Assumes nothing.
use Rattle.replay_table.proofs.rows.Goals as goal

pub ordinals-table-requires : goal.ordinals-table-requires
ordinals-table-requires c = tt

pub returns : goal.returns
returns c = tt
