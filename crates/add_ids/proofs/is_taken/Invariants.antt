use mathlib.Core.Path.{◌≡◌}
use lib.ListN.{drop}
use Rattle.program_ids.specs.Ids.{ids_at}
use Rattle.add_ids.specs.Taken.{taken}
use Rattle.add_ids.proofs.is_taken.Given as goal

abbrev pub invariant-loop-leaf : goal.invariant-loop-leaf
invariant-loop-leaf l = taken (ids_at l.text l.ids) l.prefix l.leaves ≡ taken (ids_at l.text l.ids) l.prefix (drop l.leaf-index l.leaves)
