use Prim.Native.Nat.{ℕ, ◌+◌, ◌-◌, ◌≤◌}
use mathlib.Core.Path.{◌≡◌}
use mathlib.Core.List.{List}
use lib.ListN.{length, drop}
use Rattle.catalogue_entries.specs.declared.Entry.{Entry}
use Rattle.catalogue_entries.specs.Entries.{entries_in, counted, entries_before, sizes}
use Rattle.catalogue_kinds.proofs.pass_before.Given as goal

-- those still to pass, from `at` on, with `count` passed of the kind
abbrev pub ahead : List ℕ → ℕ → ℕ → ℕ → List Entry
ahead c k at left = entries_before k left (entries_in (drop at c))

-- what was passed, and what is still to pass
abbrev pub Onward : List ℕ → ℕ → ℕ → ℕ → ℕ → Type 0
Onward c k i at n =
    (at ≤ length c) × (n ≤ at) × (n ≤ i)
    × (sizes (entries_before k i (entries_in c)) ≡ at + sizes (ahead c k at (i - n)))
    × (counted k (entries_before k i (entries_in c)) ≡ n + counted k (ahead c k at (i - n)))

abbrev pub invariant-loop-e : goal.invariant-loop-e
invariant-loop-e l = Onward l.catalogue l.kind l.ordinal l.at l.count

abbrev pub decreases-loop-e : goal.decreases-loop-e
decreases-loop-e l = length l.catalogue - l.at
