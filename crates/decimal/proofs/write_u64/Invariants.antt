use mathlib.Core.Path.{◌≡◌}
use mathlib.Core.List.{[]}
use lib.ListN.{length}
use Rattle.format.specs.Decimal.{written, written_f}
use Rattle.byte_slices.specs.Over.{over}
use Rattle.decimal.proofs.write_u64.Given as goal

abbrev pub invariant-loop-i : goal.invariant-loop-i
invariant-loop-i l =
    (length (written_f l.i l.rest []) ≡ l.i) × (over l.initial.out l.at (written l.v) ≡ over l.out l.at (written_f l.i l.rest []))
