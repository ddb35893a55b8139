-- Bytes stored one by one, and a run written after them, are one run.
use Prim.Native.Nat.{ℕ, ◌+◌, ◌≤◌}
use mathlib.Core.Path.{◌≡◌, ap, ◌∙◌}
use mathlib.Core.List.{List, [], ◌∷◌, ◌++◌}
use native.Mathlib.Omega.{arith}
use native.Mathlib.Numerals.{add-one, add-two}
use lib.ListN.{length, set}
use lib.Seq.{sets, sets-eq}
use Rattle.byte_slices.specs.Over.{over}
use Rattle.byte_slices.proofs.Over.{over-over}

module _ (out : List ℕ) (at : ℕ) (xs : List ℕ) where
  run-then : (vs : List ℕ) → at + length vs + length xs ≤ length out → over (sets out at vs) (at + length vs) xs ≡ over out at (vs ++ xs)
  unfolding over
  run-then vs h = ap (λ o. over o (at + length vs) xs) (sets-eq vs out at (omega arith)) ∙ over-over out at vs xs h

  pub one_then : (a : ℕ) → at + 1 + length xs ≤ length out → over (set out at a) (at + 1) xs ≡ over out at (a ∷ xs)
  one_then a h = run-then (a ∷ []) h

  pub three-then : (a b c : ℕ) → at + 3 + length xs ≤ length out → over (set (set (set out at a) (at + 1) b) (at + 2) c) (at + 3) xs ≡ over out at (a ∷ b ∷ c ∷ xs)
  three-then a b c h = rw (add-one at, add-two at) (run-then (a ∷ b ∷ c ∷ []) h)
