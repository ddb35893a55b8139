-- `accepted_line::tag_number::tag_number` meets its contract.
use Prim.Native.Nat.{◌+◌, ◌*◌}
use mathlib.Core.Path.{ap₂}
use Rattle.accepted_line.specs.Number.{tag_number}
use Rattle.accepted_line.proofs.tag_number.tag_number.Goals as goal

pub returns : goal.returns
unfolding tag_number
returns c = ap₂ (λ x y. x * 62 + y) c.place_of.ensures c.place_of-2.ensures
