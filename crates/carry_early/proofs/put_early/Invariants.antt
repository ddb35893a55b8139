use Prim.Native.Nat.{◌+◌, ◌*◌, ◌≤◌}
use mathlib.Core.Path.{◌≡◌}
use lib.ListN.{length}
use Rattle.byte_slices.specs.Over.{over}
use Rattle.accepted.proofs.Ahead.{ahead}
use Rattle.carry_early.specs.Early.{early_from, early_of, rows_from}
use Rattle.carry_early.proofs.put_early.Given as goal

-- the rows of the lines still to come
abbrev pub invariant-loop-line : goal.invariant-loop-line
invariant-loop-line l =
    (l.at ≤ length l.text)
    × (l.line + length (early_from l.strict (ahead l.text l.at)).refusals ≡ l.count)
    × (length l.table ≡ length l.initial.table)
    × (over l.table (l.line * 2) (rows_from l.line (early_from l.strict (ahead l.text l.at)).refusals) ≡ over l.initial.table 0 (rows_from 0 (early_of l.text).refusals))
    × (l.line ≤ l.at)
