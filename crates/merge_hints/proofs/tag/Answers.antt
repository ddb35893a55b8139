-- `merge_hints::tag` meets its contract.
use Prim.Native.Nat.{◌/◌, ◌%◌}
use mathlib.Core.Path.{refl}
use native.Mathlib.Omega.{arith}
use native.Mathlib.Nat.{mod-lt}
use Rattle.merge_hints.proofs.tag.Goals as goal

pub returns : goal.returns
returns c = let n = c.args.number in (n / 67108864 % 64, refl, mod-lt (n / 67108864) {m = 64} (omega arith))
