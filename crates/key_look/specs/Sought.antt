-- The key that a slot of the index holds, and how a search for a key ends.
use Prim.Native.Nat.{ℕ, zero, suc, ◌+◌, ◌*◌, ◌/◌, ◌%◌}
use Rattle.std.specs.Prelude.{Bool, ◌&&◌, cond, List, [], ◌∷◌, length, take, drop}
use Rattle.std.proofs.Math.Dec.{eqb}
use Rattle.format.specs.Bytes.{same}
use Rattle.format.specs.Slots.{around}
use Rattle.record.specs.declared.Stretch.{Stretch}
use Rattle.key_at.specs.Word.{word}
use Rattle.key_look.specs.Seed.{key_number}
use Rattle.key_look.specs.declared.Seed.{Seed}
use Rattle.key_look.specs.declared.Sought.{Sought}
use Rattle.key_look.specs.declared.Sought.TheVariants.{Known, Free, Full}

-- ---- a slot

-- the key that a slot holds
unfoldable pub key_told : List ℕ → ℕ → List ℕ
unfolding word
key_told t v = word (drop (v % 16777216) t)

-- does it hold the key `id` with this fingerprint?
unfoldable pub tells_print : List ℕ → ℕ → List ℕ → ℕ → Bool
unfolding same key_told
tells_print t print id v = eqb print (v / 16777216) && same id (key_told t v)

-- ---- the search

-- along some slots, the first of which is the slot `at` of `n`
unfoldable pub look_along : (ℕ → Bool) → ℕ → ℕ → List ℕ → Sought
look_along hit n at [] = Full
look_along hit n at (zero ∷ ss) = Free at
look_along hit n at (suc k ∷ ss) = cond (hit (suc k)) (Known at) (look_along hit n ((at + 1) % n) ss)

-- how many slots are looked at for that
unfoldable pub looks_along : (ℕ → Bool) → List ℕ → ℕ
looks_along hit [] = 0
looks_along hit (zero ∷ ss) = 1
looks_along hit (suc k ∷ ss) = suc (cond (hit (suc k)) 0 (looks_along hit ss))

-- from the slot of a key's number on
unfoldable pub sought_from : List ℕ → List ℕ → ℕ → ℕ → List ℕ → Sought
unfolding look_along tells_print around
sought_from t slots number print id =
    let at : ℕ = number % length slots in
    look_along (tells_print t print id) (length slots) at (around at slots)

unfoldable pub looks_from : List ℕ → List ℕ → ℕ → ℕ → List ℕ → ℕ
unfolding looks_along tells_print around
looks_from t slots number print id = looks_along (tells_print t print id) (around (number % length slots) slots)

-- the key at a place of the text
abbrev pub key_at : List ℕ → Stretch → List ℕ
key_at t p = take p.len (drop p.at t)

-- ---- by the number of a key

module _ (seed : Seed) where
  -- what a slot keeps of a key besides its place: its kind, and five bits of its number, by which most other keys are told apart without a
  -- look at the text
  unfoldable pub fingerprint : ℕ → List ℕ → ℕ
  unfolding key_number
  fingerprint k id = k * 32 + key_number seed k id / 134217728 % 32

  -- does a slot hold the key `id` of kind `k`?
  unfoldable pub tells_key : List ℕ → ℕ → List ℕ → ℕ → Bool
  unfolding fingerprint same key_told
  tells_key t k id v = eqb (fingerprint k id) (v / 16777216) && same id (key_told t v)

  -- the slot, of `n`, at which looking for a key starts
  unfoldable pub first_slot : ℕ → ℕ → List ℕ → ℕ
  unfolding key_number
  first_slot n k id = key_number seed k id % n

  -- looking for the key `id` of kind `k`
  unfoldable pub sought : List ℕ → List ℕ → ℕ → List ℕ → Sought
  unfolding look_along tells_key first_slot around
  sought t slots k id =
      let at : ℕ = first_slot (length slots) k id in
      look_along (tells_key t k id) (length slots) at (around at slots)

  -- and how many slots are looked at
  unfoldable pub looks : List ℕ → List ℕ → ℕ → List ℕ → ℕ
  unfolding looks_along tells_key first_slot around
  looks t slots k id = looks_along (tells_key t k id) (around (first_slot (length slots) k id) slots)

  -- for the key at a place of the text, as one of kind `k`
  abbrev pub sought_at : List ℕ → List ℕ → ℕ → Stretch → Sought
  sought_at t slots k p = sought t slots k (key_at t p)

  abbrev pub looks_at : List ℕ → List ℕ → ℕ → Stretch → ℕ
  looks_at t slots k p = looks t slots k (key_at t p)
