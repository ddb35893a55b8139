use Prim.Native.Nat.{ℕ, ◌+◌, ◌-◌, ◌≤◌}
use mathlib.Core.Path.{◌≡◌}
use mathlib.Core.Bool.{Bool}
use mathlib.Core.List.{List}
use lib.ListN.{length}
use Rattle.accepted.proofs.Ahead.{ahead}
use Rattle.carry_early.specs.Early.{early_from, early_of}
use Rattle.carry_early.proofs.find_first.Given as goal

-- what is known of the whole, by the lines still to come
pub record Left (t : List ℕ) (at line : ℕ) (strict : Bool) : Type 0 where
  pub inside : at ≤ length t
  pub slow : line ≤ at
  pub rest : (early_from strict (ahead t at)).rest ≡ (early_of t).rest
  pub rule : (early_from strict (ahead t at)).strict ≡ (early_of t).strict
  pub count : line + length (early_from strict (ahead t at)).refusals ≡ length (early_of t).refusals

abbrev pub invariant-loop-at : goal.invariant-loop-at
invariant-loop-at l = Left l.text l.at l.line l.strict

abbrev pub decreases-loop-at : goal.decreases-loop-at
decreases-loop-at l = length l.text - l.at
