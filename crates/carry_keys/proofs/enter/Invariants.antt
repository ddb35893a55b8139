use Prim.Native.Nat.{◌+◌, ◌-◌, ◌*◌, ◌≤◌}
use mathlib.Core.Path.{◌≡◌}
use lib.ListN.{length, drop}
use Rattle.format.specs.Lines.{lines_from}
use Rattle.carry_keys.specs.Blocks.{keyed_front, after_keyed, entered}
use Rattle.carry_keys.proofs.enter.Given as goal

abbrev pub invariant-loop-n : goal.invariant-loop-n
invariant-loop-n l =
    (l.n ≤ l.many) × (l.end ≤ length l.text) × (length l.area ≡ length l.initial.area) × (after_keyed l.strict l.many l.at l.text ≡ after_keyed l.strict (l.many - l.n) l.end l.text)
    × (entered l.seed l.strict l.text l.initial.area (keyed_front l.strict l.many (lines_from l.at (drop l.at l.text))) ≡ entered l.seed l.strict l.text l.area (keyed_front l.strict (l.many - l.n) (lines_from l.end (drop l.end l.text))))
    × (l.looks.lines ≤ l.end) × (l.looks.slots ≤ 65536 + 16 * l.looks.lines)

abbrev pub decreases-loop-n : goal.decreases-loop-n
decreases-loop-n l = length l.text - l.end
