use Rattle.std.proofs.Common.{List, set, get_or, sym, ap, ◌∙◌, add-one, arith}
use Rattle.format.specs.declared.Node.{Node}
use Rattle.program_table.proofs.Fronts.{front, front-none, front-more}
use Rattle.program_table.proofs.put_nodes.Goals as goal

pub loop-i-init : goal.loop-i-init
loop-i-init c = let a = c.args in sym (front-none a.parents a.depths a.table.now)

pub loop-i-preserved : goal.loop-i-preserved
loop-i-preserved c =
    let a = c.args in
    let i = c.loop-i.i in
    let node : Node = record { parent = get_or a.parents i 0; depth = get_or a.depths i 0 } in
    ap (λ (t : List Node). set t i node) c.loop-i.invariant
    ∙ front-more i a.parents a.depths a.table.now (omega arith) (omega arith) (omega arith)
    ∙ ap (front a.parents a.depths a.table.now) (sym (add-one i))
