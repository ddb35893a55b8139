-- `programs_by_table::leaves_by_table` meets its contract: `make_plan` does the work, and `put_nodes` writes the records of the plan.
use mathlib.Core.Path.{ap, ◌∙◌}
use lib.ListN.{length}
use Rattle.format.specs.Table.{leafing_table}
use Rattle.program_table.specs.Nodes.{in_front}
use Rattle.programs_by_table.proofs.Same.{plan-fits}
use Rattle.programs_by_table.proofs.Tabled.{plan-answer, plan-nodes}
use Rattle.programs_by_table.proofs.leaves_by_table.Goals as goal

pub put_nodes-requires : goal.put_nodes-requires
put_nodes-requires c =
    let a = c.args in
    plan-fits a.text.now a.catalogue.now (length a.out.now) (length a.table.now) c.make_plan-plan.result c.make_plan-plan.ensures.plan

pub returns : goal.returns
returns c =
    let a = c.args in
    let p = c.make_plan-plan in
    let l = leafing_table a.text.now a.catalogue.now (length a.out.now) (length a.table.now) in record {
      answer = plan-answer l p.result p.ensures.plan;
      wrote = p.ensures.wrote;
      tabled = c.put_nodes.ensures ∙ ap (λ ns. in_front ns a.table.now) (plan-nodes l p.result p.ensures.plan);
    }
