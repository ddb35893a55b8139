-- `replay_table::is_leaves_by_table` is safe: a plan has at most 1,024 records. Assumes nothing.
use Rattle.programs_by_table.proofs.Same.{plan-fits}
use Rattle.replay_table.proofs.is_leaves_by_table.Goals as goal

pub is_plan-requires : goal.is_plan-requires
is_plan-requires c = (plan-fits _ _ _ _ _ c.make_plan-plan.ensures.plan).1
