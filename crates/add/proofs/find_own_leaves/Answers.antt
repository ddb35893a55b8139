-- `add::find_own_leaves` meets its contract: the parents are those of the text's programs, which are few.
use mathlib.Core.Path.{◌≡◌}
use lib.ListN.{length}
use Rattle.format.specs.Programs.{programs}
use Rattle.accepted.specs.Read.{records_of}
use Rattle.program_parents.proofs.Own.{few-programs}
use Rattle.add.proofs.find_own_leaves.Goals as goal

pub find_leaves-requires : goal.find_leaves-requires
find_leaves-requires c =
    record { ps = programs (records_of c.args.text.now); few = few-programs c.args.text.now c.requires.text_value; is = c.parents_of-parents.ensures }

pub returns : goal.returns
returns c = c.find_leaves.ensures (programs (records_of c.args.text.now)) (few-programs c.args.text.now c.requires.text_value) c.parents_of-parents.ensures
