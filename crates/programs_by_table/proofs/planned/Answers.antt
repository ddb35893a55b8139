-- `programs_by_table::planned` meets its contract: one arm for each answer.
use mathlib.Core.Path.{sym, ap, ◌∙◌}
use Rattle.programs_by_table.specs.Plans.{table_plan_of}
use Rattle.programs_by_table.proofs.planned.Goals as goal

pub returns-in-Err : goal.returns-in-Err
unfolding table_plan_of
returns-in-Err c =
    c.stopped.ensures ∙ sym (ap (λ a. table_plan_of a c.args.found) c.in-Err.is)

pub returns-in-Ok : goal.returns-in-Ok
unfolding table_plan_of
returns-in-Ok c = sym (ap (λ a. table_plan_of a c.args.found) c.in-Ok.is)
