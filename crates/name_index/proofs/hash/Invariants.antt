use Rattle.std.proofs.Common.{◌≡◌, drop}
use Rattle.format.specs.NameIndex.{hash_from}
use Rattle.name_index.proofs.hash.Given as goal

abbrev pub invariant-loop-b : goal.invariant-loop-b
invariant-loop-b l = hash_from 0 l.name ≡ hash_from l.h (drop l.b-index l.name)
