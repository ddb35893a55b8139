use Prim.Native.Nat.{◌≤◌, ◌-◌}
use mathlib.Core.Path.{◌≡◌}
use lib.ListN.{length, drop}
use Rattle.replay_cases.specs.Cases.{from_word}
use Rattle.replay_cases.proofs.word_start.Given as goal

abbrev pub invariant-loop : goal.invariant-loop
invariant-loop l = (l.at ≤ length l.line) × (from_word l.k l.line ≡ from_word (l.k - l.counter) (drop l.at l.line))
