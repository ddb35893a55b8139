use Prim.Native.Nat.{◌+◌, ◌-◌, ◌≤◌}
use mathlib.Core.Path.{◌≡◌}
use mathlib.Core.Bool.{true}
use lib.ListN.{length, drop}
use Rattle.format.specs.Lines.{lines_from}
use Rattle.format.specs.Tidy.{unwritable}
use Rattle.format.specs.declared.Kind.{Kind}
use Rattle.accepted.specs.Read.{records_of}
use Rattle.tidy_text.specs.Accepted.{all_read, records_from}
use Rattle.tidy_sizes.specs.Numbers.{get}
use Rattle.tidy_text.proofs.Total.{size}
use Rattle.tidy_text.specs.Sifted.{is_marked, sifted}
use Rattle.tidy_text.proofs.measure_marked.Given as goal

abbrev pub invariant-loop-at : goal.invariant-loop-at
invariant-loop-at l =
    (l.at ≤ length l.text)
    × ((l.l ≤ l.at) × (l.k ≤ l.at))
    × (all_read l.strict (lines_from l.at (drop l.at l.text)) ≡ true)
    × (unwritable 0 (records_of l.text) ≡ unwritable l.l (records_from l.strict l.text l.at))
    × ((i : Kind) → get i l.sizes + size i (sifted (is_marked l.marks) l.k (records_from l.strict l.text l.at)) ≡ size i (sifted (is_marked l.marks) 0 (records_of l.text)))

abbrev pub decreases-loop-at : goal.decreases-loop-at
decreases-loop-at l = length l.text - l.at
