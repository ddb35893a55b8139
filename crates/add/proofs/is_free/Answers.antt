-- `add::is_free` meets its contract: nobody has this ID.
use Rattle.program_ids.specs.Ids.{ids_at}
use Rattle.add.proofs.Prior.{free_is}
use Rattle.add.proofs.is_free.Goals as goal

pub returns : goal.returns
returns c =
    let a = c.args in
    free_is a.id.now (ids_at a.text.now a.ids.now) c.find_program.result c.is_none.result c.find_program.ensures c.is_none.ensures
