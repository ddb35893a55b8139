-- `program_ids::number_of` meets its contract: the key's number, as 32 bits.
use Prim.Native.Nat.{◌%◌}
use mathlib.Core.Path.{ap}
use Rattle.program_ids.specs.Ids.{id_number}
use Rattle.program_ids.proofs.number_of.Goals as goal

pub returns : goal.returns
unfolding id_number
returns c = ap (λ n. n % 4294967296) c.hash.ensures
