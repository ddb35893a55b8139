use Prim.Native.Nat.{◌-◌, ◌≤◌}
use mathlib.Core.Path.{◌≡◌}
use mathlib.Core.Bool.{true}
use lib.ListN.{length, drop}
use Rattle.format.specs.Lines.{lines_from}
use Rattle.accepted.specs.Read.{records_of}
use Rattle.tidy_text.specs.Accepted.{all_read, records_from}
use Rattle.tidy_text.specs.Placed.{with_parts, parts, Apart}
use Rattle.tidy_text.specs.Sifted.{is_marked, sifted}
use Rattle.tidy_text.proofs.put_lines.Given as goal

abbrev pub invariant-loop-at : goal.invariant-loop-at
invariant-loop-at l =
    (l.at ≤ length l.text)
    × (l.k ≤ l.at)
    × (all_read l.strict (lines_from l.at (drop l.at l.text)) ≡ true)
    × Apart (parts l.next (sifted (is_marked l.marks) l.k (records_from l.strict l.text l.at))) (length l.out)
    × (with_parts l.out (parts l.next (sifted (is_marked l.marks) l.k (records_from l.strict l.text l.at))) ≡ with_parts l.initial.out (parts l.initial.next (sifted (is_marked l.marks) 0 (records_of l.text))))
    × (length l.out ≡ length l.initial.out)

abbrev pub decreases-loop-at : goal.decreases-loop-at
decreases-loop-at l = length l.text - l.at
