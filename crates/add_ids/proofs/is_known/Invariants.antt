use mathlib.Core.Path.{◌≡◌}
use lib.ListN.{drop}
use Rattle.program_ids.specs.Ids.{ids_at}
use Rattle.add_ids.specs.Taken.{joined, is_among}
use Rattle.add_ids.proofs.is_known.Given as goal

abbrev pub invariant-loop-k : goal.invariant-loop-k
invariant-loop-k l = is_among (joined l.prefix l.other) (ids_at l.text l.ids) ≡ is_among (joined l.prefix l.other) (drop l.k (ids_at l.text l.ids))
