-- Slots that are searched from a place on, round the end: each is 0, which means empty, or a value. What a value means is left open: `start` gives
-- the slot at which the search for it starts, and a search is given by the values that it accepts.
use Rattle.std.specs.Prelude.{ℕ, zero, suc, ◌+◌, ◌%◌, ◌≤◌, ◌<◌, ◌≡◌, Bool, true, false, cond, List, [], ◌∷◌, ◌++◌, length, take, drop}

-- the slots in the order in which they are looked at: from `at` on, round the end
unfoldable pub around : ℕ → List ℕ → List ℕ
around at slots = drop at slots ++ take at slots

-- how many slots come before the first empty one
unfoldable pub full : List ℕ → ℕ
full [] = 0
full (zero ∷ ss) = 0
full (suc k ∷ ss) = suc (full ss)

-- the slot that a value enters: the first empty one from `at` on
unfoldable pub seat : ℕ → List ℕ → ℕ
unfolding around full
seat at slots = (at + full (around at slots)) % length slots

-- how many are filled
unfoldable pub filled : List ℕ → ℕ
filled [] = 0
filled (zero ∷ ss) = filled ss
filled (suc k ∷ ss) = suc (filled ss)

-- a search along slots: the first value that is accepted; an empty slot ends it, with 0
unfoldable pub seek : (ℕ → Bool) → List ℕ → ℕ
seek hit [] = 0
seek hit (zero ∷ ss) = 0
seek hit (suc k ∷ ss) = cond (hit (suc k)) (suc k) (seek hit ss)

-- the first accepted value, in the order of entering, or 0, which is not a value
unfoldable pub pick : (ℕ → Bool) → List ℕ → ℕ
pick hit [] = 0
pick hit (zero ∷ vs) = pick hit vs
pick hit (suc k ∷ vs) = cond (hit (suc k)) (suc k) (pick hit vs)

-- no value in a slot is accepted
unfoldable pub Clear : (ℕ → Bool) → List ℕ → Type 0
Clear hit [] = Unit
Clear hit (zero ∷ ss) = Clear hit ss
Clear hit (suc k ∷ ss) = (hit (suc k) ≡ false) × Clear hit ss

-- the slots hold the values `vs`, which entered in this order, and no other
pub record Held (start : ℕ → ℕ) (slots vs : List ℕ) : Type 0 where
  pub few : filled slots ≤ length vs
  pub only : (hit : ℕ → Bool) → pick hit vs ≡ 0 → Clear hit slots
  -- a search finds what a plain search of the values finds, if all values that it accepts start at one slot
  pub finds : (hit : ℕ → Bool) (at : ℕ) → at < length slots → ((v : ℕ) → hit v ≡ true → start v ≡ at) → seek hit (around at slots) ≡ pick hit vs
